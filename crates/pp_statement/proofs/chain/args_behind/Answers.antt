use Rattle.std.proofs.Common.{◌+◌, ◌-◌, sym, ap, ◌∙◌, drop}
use Rattle.std.specs.Prelude.{codes}
use Rattle.pp_syntax.specs.Lexing.{lexemes_of}
use Rattle.pp_syntax.specs.declared.token.Kind.TheVariants as kind
use Rattle.pp_readers.specs.Expressions.{with_front, expr_at}
use Rattle.pp_readers.specs.Combining.{begins, behind}
use Rattle.pp_readers.specs.Statements.{more_args}
use Rattle.pp_readers.proofs.StatementSteps.{many_goes_on, many_ends}
use Rattle.pp_statement.proofs.chain.args_behind.Goals as goal

pub loop-turn-preserved : goal.loop-turn-preserved
loop-turn-preserved c =
    let ts = lexemes_of c.args.parser.now.tokens.now in
    ap (λ xs. with_front xs (more_args (expr_at c.args.parser.now.limit) (c.turns-turn-end.result - (c.loop-turn._turn + 1)) (drop c.in_ok-item.more ts))) c.in_ok-push-2.ensures.ok
    ∙ sym (many_goes_on (begins kind.Sign (codes ",")) (behind kind.Sign (codes ",") (expr_at c.args.parser.now.limit)) c.loop-turn.found c.turns-turn-end.result c.loop-turn._turn (drop c.loop-turn.rest ts) (drop c.in_ok-item.more ts) c.in_ok-item.item
    c.loop-turn-test.true (sym c.begins.ensures ∙ c.if-not-begins.false) c.in_ok-item.ensures)
    ∙ c.loop-turn.invariant

pub returns-then-not-begins : goal.returns-then-not-begins
returns-then-not-begins c =
    let ts = lexemes_of c.args.parser.now.tokens.now in
    sym c.loop-turn.invariant
    ∙ many_ends (begins kind.Sign (codes ",")) (behind kind.Sign (codes ",") (expr_at c.args.parser.now.limit)) c.loop-turn.found c.turns-turn-end.result c.loop-turn._turn (drop c.loop-turn.rest ts) c.loop-turn-test.true (sym c.begins.ensures ∙ c.if-not-begins.true)
