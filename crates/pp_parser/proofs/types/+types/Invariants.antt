use Rattle.std.proofs.Common.{◌≡◌, ◌+◌, ◌-◌, ◌*◌, drop}
use Rattle.std.specs.Prelude.{codes}
use Rattle.pp_syntax.specs.Lexing.{lexemes_of}
use Rattle.pp_readers.specs.Expressions.{with_front, items}
use Rattle.pp_parser.specs.TypeReading.{members_in, type_at}
use Rattle.pp_parser.proofs.types.+types.Given as goal

-- A type is read at the depth that is left for the types in its brackets; a rule calls those below it in this order.
abbrev pub decreases-type_at : goal.decreases-type_at
decreases-type_at l = 8 * l.depth

abbrev pub decreases-member : goal.decreases-member
decreases-member l = 8 * l.depth + 1

abbrev pub decreases-types : goal.decreases-types
decreases-types l = 8 * l.depth + 1

abbrev pub decreases-array_behind : goal.decreases-array_behind
decreases-array_behind l = 8 * l.depth + 2

abbrev pub decreases-optional_behind : goal.decreases-optional_behind
decreases-optional_behind l = 8 * l.depth + 2

abbrev pub decreases-variant_behind : goal.decreases-variant_behind
decreases-variant_behind l = 8 * l.depth + 2

abbrev pub decreases-type_behind : goal.decreases-type_behind
decreases-type_behind l = 8 * l.depth + 3

abbrev pub decreases-any_type : goal.decreases-any_type
decreases-any_type l = 8 * l.depth + 4

-- what was read so far, and what reading the rest gives in the turns that are left
abbrev pub invariant-types-loop-turn : goal.invariant-types-loop-turn
invariant-types-loop-turn l = with_front l.found (items (codes "]") (type_at l.depth) (l._turn-end - l._turn) (drop l.rest (lexemes_of l.parser.tokens.now)))
    ≡ members_in (type_at l.depth) (drop l.from (lexemes_of l.parser.tokens.now))
