use Rattle.std.proofs.Common.{◌≡◌, ◌-◌, drop}
use Rattle.pp_syntax.specs.Lexing.{lexemes_of}
use Rattle.pp_readers.specs.Expressions.{with_front, expr_at}
use Rattle.pp_readers.specs.Combining.{many}
use Rattle.pp_readers.specs.Statements.{stmt_at}
use Rattle.pp_parser.specs.TypeReading.{type_at}
use Rattle.pp_parser.specs.ItemReading.{has_token, item_with, items_at}
use Rattle.pp_parser.proofs.items.items.Given as goal

-- what was read so far, and what reading the rest gives in the turns that are left
abbrev pub invariant-loop-turn : goal.invariant-loop-turn
invariant-loop-turn l = with_front l.found (many has_token (item_with (expr_at l.parser.limit) (type_at l.parser.limit) (stmt_at (expr_at l.parser.limit) l.parser.limit)) (l._turn-end - l._turn) (drop l.rest (lexemes_of l.parser.tokens.now)))
    ≡ items_at l.parser.limit (lexemes_of l.parser.tokens.now)
