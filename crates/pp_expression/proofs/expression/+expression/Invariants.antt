use Rattle.std.proofs.Common.{◌≡◌, ◌+◌, ◌-◌, ◌*◌, drop}
use Rattle.std.specs.Prelude.{codes}
use Rattle.pp_syntax.specs.Lexing.{lexemes_of}
use Rattle.pp_readers.specs.Expressions.{operations, levels_with, items, pair_with, choice_with, suffixes, members, expr_at, with_front, with_members}
use Rattle.pp_expression.proofs.expression.+expression.Given as goal

-- Every rule is read at the depth that is left for what is nested in it; a rule calls those below it in this order.
abbrev pub decreases-expr : goal.decreases-expr
decreases-expr l = 64 * l.depth

abbrev pub decreases-enclosed : goal.decreases-enclosed
decreases-enclosed l = 64 * l.depth + 1

abbrev pub decreases-pair : goal.decreases-pair
decreases-pair l = 64 * l.depth + 1

abbrev pub decreases-option : goal.decreases-option
decreases-option l = 64 * l.depth + 1

abbrev pub decreases-choice : goal.decreases-choice
decreases-choice l = 64 * l.depth + 2

abbrev pub decreases-some_choices : goal.decreases-some_choices
decreases-some_choices l = 64 * l.depth + 3

abbrev pub decreases-choices : goal.decreases-choices
decreases-choices l = 64 * l.depth + 4

abbrev pub decreases-selection : goal.decreases-selection
decreases-selection l = 64 * l.depth + 5

abbrev pub decreases-index : goal.decreases-index
decreases-index l = 64 * l.depth + 2

abbrev pub decreases-suffix : goal.decreases-suffix
decreases-suffix l = 64 * l.depth + 6

abbrev pub decreases-suffixes : goal.decreases-suffixes
decreases-suffixes l = 64 * l.depth + 7

abbrev pub decreases-exprs : goal.decreases-exprs
decreases-exprs l = 64 * l.depth + 1

abbrev pub decreases-maybe_exprs : goal.decreases-maybe_exprs
decreases-maybe_exprs l = 64 * l.depth + 2

abbrev pub decreases-pairs : goal.decreases-pairs
decreases-pairs l = 64 * l.depth + 2

abbrev pub decreases-maybe_pairs : goal.decreases-maybe_pairs
decreases-maybe_pairs l = 64 * l.depth + 3

abbrev pub decreases-list : goal.decreases-list
decreases-list l = 64 * l.depth + 3

abbrev pub decreases-map : goal.decreases-map
decreases-map l = 64 * l.depth + 4

abbrev pub decreases-opened : goal.decreases-opened
decreases-opened l = 64 * l.depth + 5

abbrev pub decreases-titles : goal.decreases-titles
decreases-titles l = 64 * l.depth + 2

abbrev pub decreases-reference : goal.decreases-reference
decreases-reference l = 64 * l.depth + 3

abbrev pub decreases-inner : goal.decreases-inner
decreases-inner l = 64 * l.depth + 1

abbrev pub decreases-hole : goal.decreases-hole
decreases-hole l = 64 * l.depth + 2

abbrev pub decreases-part : goal.decreases-part
decreases-part l = 64 * l.depth + 3

abbrev pub decreases-member : goal.decreases-member
decreases-member l = 64 * l.depth + 4

abbrev pub decreases-members : goal.decreases-members
decreases-members l = 64 * l.depth + 5

abbrev pub decreases-quoted : goal.decreases-quoted
decreases-quoted l = 64 * l.depth + 6

abbrev pub decreases-double : goal.decreases-double
decreases-double l = 64 * l.depth + 7

abbrev pub decreases-primary : goal.decreases-primary
decreases-primary l = 64 * l.depth + 8

abbrev pub decreases-postfix : goal.decreases-postfix
decreases-postfix l = 64 * l.depth + 9

abbrev pub decreases-unary : goal.decreases-unary
decreases-unary l = 64 * l.depth + 10

abbrev pub decreases-level : goal.decreases-level
decreases-level l = 64 * l.depth + 2 * l.n + 11

abbrev pub decreases-operations : goal.decreases-operations
decreases-operations l = 64 * l.depth + 2 * l.n + 12

-- what was read so far, and what reading the rest gives in the turns that are left
abbrev pub invariant-operations-loop-turn : goal.invariant-operations-loop-turn
invariant-operations-loop-turn l = with_front l.found (operations (6 - l.n) (levels_with (expr_at l.depth) l.n) (l.turns - l._turn) (drop l.rest (lexemes_of l.tokens))) ≡ operations (6 - l.n) (levels_with (expr_at l.depth) l.n) l.turns (drop l.from (lexemes_of l.tokens))

abbrev pub invariant-suffixes-loop-turn : goal.invariant-suffixes-loop-turn
invariant-suffixes-loop-turn l = suffixes (expr_at l.depth) l.at (l.turns - l._turn) l.base (drop l.rest (lexemes_of l.tokens)) ≡ suffixes (expr_at l.depth) l.at l.turns l.fn.operand (drop l.from (lexemes_of l.tokens))

abbrev pub invariant-some_choices-loop-turn : goal.invariant-some_choices-loop-turn
invariant-some_choices-loop-turn l = with_front l.found (items (codes "}") (choice_with (expr_at l.depth)) (l.turns - l._turn) (drop l.rest (lexemes_of l.tokens))) ≡ items (codes "}") (choice_with (expr_at l.depth)) l.turns (drop l.from (lexemes_of l.tokens))

abbrev pub invariant-exprs-loop-turn : goal.invariant-exprs-loop-turn
invariant-exprs-loop-turn l = with_front l.found (items l.close (expr_at l.depth) (l.turns - l._turn) (drop l.rest (lexemes_of l.tokens))) ≡ items l.close (expr_at l.depth) l.turns (drop l.from (lexemes_of l.tokens))

abbrev pub invariant-pairs-loop-turn : goal.invariant-pairs-loop-turn
invariant-pairs-loop-turn l = with_front l.found (items (codes "}") (pair_with (expr_at l.depth)) (l.turns - l._turn) (drop l.rest (lexemes_of l.tokens))) ≡ items (codes "}") (pair_with (expr_at l.depth)) l.turns (drop l.from (lexemes_of l.tokens))

abbrev pub invariant-members-loop-turn : goal.invariant-members-loop-turn
invariant-members-loop-turn l = with_members l.found l.part (members (expr_at l.depth) (l.turns - l._turn) (drop l.rest (lexemes_of l.tokens))) ≡ members (expr_at l.depth) l.turns (drop l.from (lexemes_of l.tokens))
