use Rattle.std.proofs.Common.{◌≡◌, ◌-◌, drop}
use Rattle.std.specs.Prelude.{codes}
use Rattle.pp_syntax.specs.Lexing.{lexemes_of}
use Rattle.pp_readers.specs.Expressions.{with_front, items}
use Rattle.pp_readers.specs.Names.{taken}
use Rattle.pp_parser.specs.TypeReading.{quoted_by, texts_in}
use Rattle.pp_parser.proofs.types.texts.Given as goal

-- what was read so far, and what reading the rest gives in the turns that are left
abbrev pub invariant-loop-turn : goal.invariant-loop-turn
invariant-loop-turn l = with_front l.found (items (codes "]") (taken quoted_by) (l._turn-end - l._turn) (drop l.rest (lexemes_of l.parser.tokens.now)))
    ≡ texts_in (drop l.from (lexemes_of l.parser.tokens.now))
