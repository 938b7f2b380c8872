use Rattle.std.proofs.Common.{◌≡◌, ◌+◌, ◌-◌, ◌*◌, [], ◌∷◌, drop, length}
use Rattle.pp_syntax.specs.Lexing.{lexemes_of}
use Rattle.pp_readers.specs.Expressions.{with_front, expr_at, postfix_with}
use Rattle.pp_readers.specs.Statements.{ands_with, ors_with, search_at}
use Rattle.pp_statement.proofs.search.+search.Given as goal

-- A search is read at the depth that is left for what is nested in it; a rule calls those below it in this order.
abbrev pub decreases-search : goal.decreases-search
decreases-search l = 16 * l.depth + 0

abbrev pub decreases-enclosed : goal.decreases-enclosed
decreases-enclosed l = 16 * l.depth + 1

abbrev pub decreases-atom : goal.decreases-atom
decreases-atom l = 16 * l.depth + 2

abbrev pub decreases-next_atom : goal.decreases-next_atom
decreases-next_atom l = 16 * l.depth + 3

abbrev pub decreases-ands : goal.decreases-ands
decreases-ands l = 16 * l.depth + 4

abbrev pub decreases-conjunction : goal.decreases-conjunction
decreases-conjunction l = 16 * l.depth + 5

abbrev pub decreases-next_conjunction : goal.decreases-next_conjunction
decreases-next_conjunction l = 16 * l.depth + 6

abbrev pub decreases-ors : goal.decreases-ors
decreases-ors l = 16 * l.depth + 7

abbrev pub decreases-disjunction : goal.decreases-disjunction
decreases-disjunction l = 16 * l.depth + 8

-- what was read so far, and what reading the rest gives in the turns that are left
abbrev pub invariant-ands-loop-turn : goal.invariant-ands-loop-turn
invariant-ands-loop-turn l = with_front l.found (ands_with (postfix_with (expr_at l.parser.limit)) (search_at (postfix_with (expr_at l.parser.limit)) l.depth) (l._turn-end - l._turn) (drop l.rest (lexemes_of l.parser.tokens.now)))
    ≡ with_front (l.fn.first ∷ []) (ands_with (postfix_with (expr_at l.parser.limit)) (search_at (postfix_with (expr_at l.parser.limit)) l.depth) (length (drop l.from (lexemes_of l.parser.tokens.now)) + 1) (drop l.from (lexemes_of l.parser.tokens.now)))

abbrev pub invariant-ors-loop-turn : goal.invariant-ors-loop-turn
invariant-ors-loop-turn l = with_front l.found (ors_with (postfix_with (expr_at l.parser.limit)) (search_at (postfix_with (expr_at l.parser.limit)) l.depth) (l._turn-end - l._turn) (drop l.rest (lexemes_of l.parser.tokens.now)))
    ≡ with_front (l.fn.first ∷ []) (ors_with (postfix_with (expr_at l.parser.limit)) (search_at (postfix_with (expr_at l.parser.limit)) l.depth) (length (drop l.from (lexemes_of l.parser.tokens.now)) + 1) (drop l.from (lexemes_of l.parser.tokens.now)))
