use Rattle.std.proofs.Common.{◌≡◌, ◌+◌, ◌-◌, ◌*◌, [], ◌∷◌, drop, length}
use Rattle.pp_syntax.specs.Lexing.{lexemes_of}
use Rattle.pp_readers.specs.Expressions.{with_front, expr_at}
use Rattle.pp_readers.specs.Combining.{many}
use Rattle.pp_readers.specs.Statements.{unclosed, statements_in, case_arm_with, case_arms_in, more_arms, stmt_at}
use Rattle.pp_statement.proofs.statement.+statement.Given as goal

-- A statement is read at the depth that is left for the statements of its blocks; a rule calls those below it in this order.
abbrev pub decreases-statement : goal.decreases-statement
decreases-statement l = 16 * l.depth + 0

abbrev pub decreases-statements : goal.decreases-statements
decreases-statements l = 16 * l.depth + 1

abbrev pub decreases-block : goal.decreases-block
decreases-block l = 16 * l.depth + 2

abbrev pub decreases-other : goal.decreases-other
decreases-other l = 16 * l.depth + 3

abbrev pub decreases-arm : goal.decreases-arm
decreases-arm l = 16 * l.depth + 3

abbrev pub decreases-next_arm : goal.decreases-next_arm
decreases-next_arm l = 16 * l.depth + 4

abbrev pub decreases-arms_behind : goal.decreases-arms_behind
decreases-arms_behind l = 16 * l.depth + 5

abbrev pub decreases-arms : goal.decreases-arms
decreases-arms l = 16 * l.depth + 6

abbrev pub decreases-if_statement : goal.decreases-if_statement
decreases-if_statement l = 16 * l.depth + 7

abbrev pub decreases-unless_statement : goal.decreases-unless_statement
decreases-unless_statement l = 16 * l.depth + 4

abbrev pub decreases-case_arm : goal.decreases-case_arm
decreases-case_arm l = 16 * l.depth + 3

abbrev pub decreases-case_arms : goal.decreases-case_arms
decreases-case_arms l = 16 * l.depth + 4

abbrev pub decreases-braced_arms : goal.decreases-braced_arms
decreases-braced_arms l = 16 * l.depth + 5

abbrev pub decreases-case_statement : goal.decreases-case_statement
decreases-case_statement l = 16 * l.depth + 6

abbrev pub decreases-keyed : goal.decreases-keyed
decreases-keyed l = 16 * l.depth + 8

abbrev pub decreases-any_statement : goal.decreases-any_statement
decreases-any_statement l = 16 * l.depth + 9

-- what was read so far, and what reading the rest gives in the turns that are left
abbrev pub invariant-statements-loop-turn : goal.invariant-statements-loop-turn
invariant-statements-loop-turn l = with_front l.found (many unclosed (stmt_at (expr_at l.parser.limit) l.depth) (l._turn-end - l._turn) (drop l.rest (lexemes_of l.parser.tokens.now)))
    ≡ statements_in (stmt_at (expr_at l.parser.limit) l.depth) (drop l.from (lexemes_of l.parser.tokens.now))

abbrev pub invariant-case_arms-loop-turn : goal.invariant-case_arms-loop-turn
invariant-case_arms-loop-turn l = with_front l.found (many unclosed (case_arm_with (expr_at l.parser.limit) (stmt_at (expr_at l.parser.limit) l.depth)) (l._turn-end - l._turn) (drop l.rest (lexemes_of l.parser.tokens.now)))
    ≡ case_arms_in (expr_at l.parser.limit) (stmt_at (expr_at l.parser.limit) l.depth) (drop l.from (lexemes_of l.parser.tokens.now))

abbrev pub invariant-arms_behind-loop-turn : goal.invariant-arms_behind-loop-turn
invariant-arms_behind-loop-turn l = with_front l.found (more_arms (expr_at l.parser.limit) (stmt_at (expr_at l.parser.limit) l.depth) (l._turn-end - l._turn) (drop l.rest (lexemes_of l.parser.tokens.now)))
    ≡ with_front (l.fn.first ∷ []) (more_arms (expr_at l.parser.limit) (stmt_at (expr_at l.parser.limit) l.depth) (length (drop l.from (lexemes_of l.parser.tokens.now)) + 1) (drop l.from (lexemes_of l.parser.tokens.now)))
