use Rattle.std.proofs.Common.{◌+◌, ◌-◌, sym, ap, ◌∙◌, drop, subst}
use Rattle.std.specs.Prelude.{codes}
use Rattle.pp_syntax.specs.Lexing.{lexemes_of}
use Rattle.pp_syntax.specs.declared.token.Kind.TheVariants as kind
use Rattle.pp_readers.specs.Parsed.{Gives}
use Rattle.pp_readers.specs.Expressions.{with_front, expr_at}
use Rattle.pp_readers.proofs.Steps.{gives_err}
use Rattle.pp_readers.specs.Combining.{begins, behind, many}
use Rattle.pp_readers.specs.Statements.{unclosed, arm_with, more_arms, case_arm_with, case_arms_in, stmt_at}
use Rattle.pp_readers.proofs.StatementSteps.{stmt_step, many_goes_on, many_ends, many_stops}
use Rattle.pp_statement.proofs.statement.+statement.Goals as goal

pub statement-returns : goal.statement-returns
statement-returns t c =
    subst (λ r. Gives (λ x. (x.0, drop x.1 (lexemes_of c.args.parser.now.tokens.now))) c.any_statement.result r) (stmt_step (expr_at c.args.parser.now.limit) c.args.depth (drop c.args.from (lexemes_of c.args.parser.now.tokens.now)) c.if-depth-eq0.false) c.any_statement.ensures

pub statements-loop-turn-preserved : goal.statements-loop-turn-preserved
statements-loop-turn-preserved t c =
    let ts = lexemes_of c.args.parser.now.tokens.now in
    ap (λ xs. with_front xs (many unclosed (stmt_at (expr_at c.args.parser.now.limit) c.args.depth) (c.turns-turn-end.result - (c.loop-turn._turn + 1)) (drop c.in_ok-item.more ts))) c.in_ok-push.ensures.ok
    ∙ sym (many_goes_on (unclosed) (stmt_at (expr_at c.args.parser.now.limit) c.args.depth) c.loop-turn.found c.turns-turn-end.result c.loop-turn._turn (drop c.loop-turn.rest ts) (drop c.in_ok-item.more ts) c.in_ok-item.item
    c.loop-turn-test.true (sym c.unclosed.ensures ∙ c.if-not-unclosed.false) c.in_ok-item.ensures)
    ∙ c.loop-turn.invariant

pub statements-returns-then-not-unclosed : goal.statements-returns-then-not-unclosed
statements-returns-then-not-unclosed t c =
    let ts = lexemes_of c.args.parser.now.tokens.now in
    sym c.loop-turn.invariant
    ∙ many_ends (unclosed) (stmt_at (expr_at c.args.parser.now.limit) c.args.depth) c.loop-turn.found c.turns-turn-end.result c.loop-turn._turn (drop c.loop-turn.rest ts) c.loop-turn-test.true (sym c.unclosed.ensures ∙ c.if-not-unclosed.true)

pub case_arms-loop-turn-preserved : goal.case_arms-loop-turn-preserved
case_arms-loop-turn-preserved t c =
    let ts = lexemes_of c.args.parser.now.tokens.now in
    ap (λ xs. with_front xs (many unclosed (case_arm_with (expr_at c.args.parser.now.limit) (stmt_at (expr_at c.args.parser.now.limit) c.args.depth)) (c.turns-turn-end.result - (c.loop-turn._turn + 1)) (drop c.in_ok-item.more ts))) c.in_ok-push.ensures.ok
    ∙ sym (many_goes_on (unclosed) (case_arm_with (expr_at c.args.parser.now.limit) (stmt_at (expr_at c.args.parser.now.limit) c.args.depth)) c.loop-turn.found c.turns-turn-end.result c.loop-turn._turn (drop c.loop-turn.rest ts) (drop c.in_ok-item.more ts) c.in_ok-item.item
    c.loop-turn-test.true (sym c.unclosed.ensures ∙ c.if-not-unclosed.false) c.in_ok-item.ensures)
    ∙ c.loop-turn.invariant

pub case_arms-returns-then-not-unclosed : goal.case_arms-returns-then-not-unclosed
case_arms-returns-then-not-unclosed t c =
    let ts = lexemes_of c.args.parser.now.tokens.now in
    sym c.loop-turn.invariant
    ∙ many_ends (unclosed) (case_arm_with (expr_at c.args.parser.now.limit) (stmt_at (expr_at c.args.parser.now.limit) c.args.depth)) c.loop-turn.found c.turns-turn-end.result c.loop-turn._turn (drop c.loop-turn.rest ts) c.loop-turn-test.true (sym c.unclosed.ensures ∙ c.if-not-unclosed.true)

pub arms_behind-loop-turn-preserved : goal.arms_behind-loop-turn-preserved
arms_behind-loop-turn-preserved t c =
    let ts = lexemes_of c.args.parser.now.tokens.now in
    ap (λ xs. with_front xs (more_arms (expr_at c.args.parser.now.limit) (stmt_at (expr_at c.args.parser.now.limit) c.args.depth) (c.turns-turn-end.result - (c.loop-turn._turn + 1)) (drop c.in_ok-item.more ts))) c.in_ok-push-2.ensures.ok
    ∙ sym (many_goes_on (begins kind.Keyword (codes "elsif")) (behind kind.Keyword (codes "elsif") (arm_with (expr_at c.args.parser.now.limit) (stmt_at (expr_at c.args.parser.now.limit) c.args.depth))) c.loop-turn.found c.turns-turn-end.result c.loop-turn._turn (drop c.loop-turn.rest ts) (drop c.in_ok-item.more ts) c.in_ok-item.item
    c.loop-turn-test.true (sym c.begins.ensures ∙ c.if-not-begins.false) c.in_ok-item.ensures)
    ∙ c.loop-turn.invariant

pub arms_behind-returns-then-not-begins : goal.arms_behind-returns-then-not-begins
arms_behind-returns-then-not-begins t c =
    let ts = lexemes_of c.args.parser.now.tokens.now in
    sym c.loop-turn.invariant
    ∙ many_ends (begins kind.Keyword (codes "elsif")) (behind kind.Keyword (codes "elsif") (arm_with (expr_at c.args.parser.now.limit) (stmt_at (expr_at c.args.parser.now.limit) c.args.depth))) c.loop-turn.found c.turns-turn-end.result c.loop-turn._turn (drop c.loop-turn.rest ts) c.loop-turn-test.true (sym c.begins.ensures ∙ c.if-not-begins.true)

pub case_arms-returns-in_err-item : goal.case_arms-returns-in_err-item
case_arms-returns-in_err-item t c =
    let ts = lexemes_of c.args.parser.now.tokens.now in
    gives_err (λ x. (x.0, drop x.1 ts)) c.from_residual.result c.in_err-item.field-0.0 (case_arm_with (expr_at c.args.parser.now.limit) (stmt_at (expr_at c.args.parser.now.limit) c.args.depth) (drop c.loop-turn.rest ts))
    (case_arms_in (expr_at c.args.parser.now.limit) (stmt_at (expr_at c.args.parser.now.limit) c.args.depth) (drop c.args.from ts)) c.from_residual.ensures.1 c.in_err-item.ensures
    (λ none. sym c.loop-turn.invariant
    ∙ many_stops unclosed (case_arm_with (expr_at c.args.parser.now.limit) (stmt_at (expr_at c.args.parser.now.limit) c.args.depth)) c.loop-turn.found c.turns-turn-end.result c.loop-turn._turn (drop c.loop-turn.rest ts) c.loop-turn-test.true (sym c.unclosed.ensures ∙ c.if-not-unclosed.false) none)
