use Rattle.std.proofs.Common.{◌≡◌, ◌-◌, drop}
use Rattle.std.specs.Prelude.{codes}
use Rattle.pp_syntax.specs.Lexing.{lexemes_of}
use Rattle.pp_readers.specs.Expressions.{with_front, expr_at}
use Rattle.pp_readers.specs.Combining.{listed}
use Rattle.pp_readers.specs.Names.{begins_name}
use Rattle.pp_readers.specs.Statements.{attr_with, attrs_with}
use Rattle.pp_statement.proofs.resource.attrs.Given as goal

-- what was read so far, and what reading the rest gives in the turns that are left
abbrev pub invariant-loop-turn : goal.invariant-loop-turn
invariant-loop-turn l = with_front l.found (listed (codes ",") begins_name (attr_with (expr_at l.parser.limit)) (l._turn-end - l._turn) (drop l.rest (lexemes_of l.parser.tokens.now)))
    ≡ attrs_with (expr_at l.parser.limit) (drop l.from (lexemes_of l.parser.tokens.now))
