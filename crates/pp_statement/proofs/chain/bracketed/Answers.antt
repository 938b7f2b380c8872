use Rattle.std.proofs.Common.{◌+◌, ◌-◌, Some, sym, ap, ◌∙◌, drop}
use Rattle.std.specs.Prelude.{codes}
use Rattle.pp_syntax.specs.Lexing.{lexemes_of}
use Rattle.pp_readers.specs.Expressions.{with_front, items, expr_at}
use Rattle.pp_readers.proofs.Steps.{item_goes_on, item_ends}
use Rattle.pp_statement.proofs.chain.bracketed.Goals as goal

pub returns-then-ends : goal.returns-then-ends
returns-then-ends c =
    let ts = lexemes_of c.args.parser.now.tokens.now in
    sym c.loop-turn.invariant
    ∙ item_ends (codes ")") (expr_at c.args.parser.now.limit) c.loop-turn.found c.turns-turn-end.result c.loop-turn._turn (drop c.loop-turn.rest ts) (drop c.in_ok-item.more ts) (drop c.in_ok-ends.more ts) c.in_ok-item.item
    c.loop-turn-test.true c.in_ok-item.ensures (c.in_ok-ends.ensures ∙ ap (λ b. Some (b, drop c.in_ok-ends.more ts)) c.if-ends.true)
    ∙ ap (λ xs. Some (xs, drop c.in_ok-ends.more ts)) (sym c.in_ok-push.ensures.ok)

pub loop-turn-preserved : goal.loop-turn-preserved
loop-turn-preserved c =
    let ts = lexemes_of c.args.parser.now.tokens.now in
    ap (λ xs. with_front xs (items (codes ")") (expr_at c.args.parser.now.limit) (c.turns-turn-end.result - (c.loop-turn._turn + 1)) (drop c.in_ok-ends.more ts))) c.in_ok-push.ensures.ok
    ∙ sym (item_goes_on (codes ")") (expr_at c.args.parser.now.limit) c.loop-turn.found c.turns-turn-end.result c.loop-turn._turn (drop c.loop-turn.rest ts) (drop c.in_ok-item.more ts) (drop c.in_ok-ends.more ts) c.in_ok-item.item
    c.loop-turn-test.true c.in_ok-item.ensures (c.in_ok-ends.ensures ∙ ap (λ b. Some (b, drop c.in_ok-ends.more ts)) c.if-ends.false))
    ∙ c.loop-turn.invariant
