use Rattle.std.proofs.Common.{◌+◌, ◌-◌, sym, ap, ◌∙◌, drop, subst}
use Rattle.std.specs.Prelude.{codes}
use Rattle.pp_syntax.specs.Lexing.{lexemes_of}
use Rattle.pp_syntax.specs.declared.token.Kind.TheVariants as kind
use Rattle.pp_readers.specs.Parsed.{Gives}
use Rattle.pp_readers.specs.Expressions.{with_front, expr_at, postfix_with}
use Rattle.pp_readers.specs.Combining.{begins, behind}
use Rattle.pp_readers.specs.Statements.{atom_with, ands_with, conjunction_with, ors_with, search_at}
use Rattle.pp_readers.proofs.StatementSteps.{search_step, many_goes_on, many_ends}
use Rattle.pp_statement.proofs.search.+search.Goals as goal

pub search-returns : goal.search-returns
search-returns t c =
    subst (λ r. Gives (λ x. (x.0, drop x.1 (lexemes_of c.args.parser.now.tokens.now))) c.disjunction.result r) (search_step (postfix_with (expr_at c.args.parser.now.limit)) c.args.depth (drop c.args.from (lexemes_of c.args.parser.now.tokens.now)) c.if-depth-eq0.false) c.disjunction.ensures

pub ands-loop-turn-preserved : goal.ands-loop-turn-preserved
ands-loop-turn-preserved t c =
    let ts = lexemes_of c.args.parser.now.tokens.now in
    ap (λ xs. with_front xs (ands_with (postfix_with (expr_at c.args.parser.now.limit)) (search_at (postfix_with (expr_at c.args.parser.now.limit)) c.args.depth) (c.turns-turn-end.result - (c.loop-turn._turn + 1)) (drop c.in_ok-item.more ts))) c.in_ok-push-2.ensures.ok
    ∙ sym (many_goes_on (begins kind.Keyword (codes "and")) (behind kind.Keyword (codes "and") (atom_with (postfix_with (expr_at c.args.parser.now.limit)) (search_at (postfix_with (expr_at c.args.parser.now.limit)) c.args.depth))) c.loop-turn.found c.turns-turn-end.result c.loop-turn._turn (drop c.loop-turn.rest ts) (drop c.in_ok-item.more ts) c.in_ok-item.item
    c.loop-turn-test.true (sym c.begins.ensures ∙ c.if-not-begins.false) c.in_ok-item.ensures)
    ∙ c.loop-turn.invariant

pub ands-returns-then-not-begins : goal.ands-returns-then-not-begins
ands-returns-then-not-begins t c =
    let ts = lexemes_of c.args.parser.now.tokens.now in
    sym c.loop-turn.invariant
    ∙ many_ends (begins kind.Keyword (codes "and")) (behind kind.Keyword (codes "and") (atom_with (postfix_with (expr_at c.args.parser.now.limit)) (search_at (postfix_with (expr_at c.args.parser.now.limit)) c.args.depth))) c.loop-turn.found c.turns-turn-end.result c.loop-turn._turn (drop c.loop-turn.rest ts) c.loop-turn-test.true (sym c.begins.ensures ∙ c.if-not-begins.true)

pub ors-loop-turn-preserved : goal.ors-loop-turn-preserved
ors-loop-turn-preserved t c =
    let ts = lexemes_of c.args.parser.now.tokens.now in
    ap (λ xs. with_front xs (ors_with (postfix_with (expr_at c.args.parser.now.limit)) (search_at (postfix_with (expr_at c.args.parser.now.limit)) c.args.depth) (c.turns-turn-end.result - (c.loop-turn._turn + 1)) (drop c.in_ok-item.more ts))) c.in_ok-push-2.ensures.ok
    ∙ sym (many_goes_on (begins kind.Keyword (codes "or")) (behind kind.Keyword (codes "or") (conjunction_with (postfix_with (expr_at c.args.parser.now.limit)) (search_at (postfix_with (expr_at c.args.parser.now.limit)) c.args.depth))) c.loop-turn.found c.turns-turn-end.result c.loop-turn._turn (drop c.loop-turn.rest ts) (drop c.in_ok-item.more ts) c.in_ok-item.item
    c.loop-turn-test.true (sym c.begins.ensures ∙ c.if-not-begins.false) c.in_ok-item.ensures)
    ∙ c.loop-turn.invariant

pub ors-returns-then-not-begins : goal.ors-returns-then-not-begins
ors-returns-then-not-begins t c =
    let ts = lexemes_of c.args.parser.now.tokens.now in
    sym c.loop-turn.invariant
    ∙ many_ends (begins kind.Keyword (codes "or")) (behind kind.Keyword (codes "or") (conjunction_with (postfix_with (expr_at c.args.parser.now.limit)) (search_at (postfix_with (expr_at c.args.parser.now.limit)) c.args.depth))) c.loop-turn.found c.turns-turn-end.result c.loop-turn._turn (drop c.loop-turn.rest ts) c.loop-turn-test.true (sym c.begins.ensures ∙ c.if-not-begins.true)
