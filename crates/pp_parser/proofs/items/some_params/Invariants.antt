use Rattle.std.proofs.Common.{◌≡◌, ◌-◌, drop, ◌+◌, length}
use Rattle.std.specs.Prelude.{codes}
use Rattle.pp_syntax.specs.Lexing.{lexemes_of}
use Rattle.pp_readers.specs.Expressions.{with_front, items, expr_at}
use Rattle.pp_parser.specs.TypeReading.{type_at}
use Rattle.pp_parser.specs.ItemReading.{param_with}
use Rattle.pp_parser.proofs.items.some_params.Given as goal

-- what was read so far, and what reading the rest gives in the turns that are left
abbrev pub invariant-loop-turn : goal.invariant-loop-turn
invariant-loop-turn l = with_front l.found (items (codes ")") (param_with (expr_at l.parser.limit) (type_at l.parser.limit)) (l._turn-end - l._turn) (drop l.rest (lexemes_of l.parser.tokens.now)))
    ≡ items (codes ")") (param_with (expr_at l.parser.limit) (type_at l.parser.limit)) (length (drop l.from (lexemes_of l.parser.tokens.now)) + 1) (drop l.from (lexemes_of l.parser.tokens.now))
