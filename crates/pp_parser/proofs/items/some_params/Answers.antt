use Rattle.std.proofs.Common.{◌+◌, ◌-◌, length, Some, sym, ap, ◌∙◌, drop}
use Rattle.std.specs.Prelude.{codes}
use Rattle.pp_syntax.specs.Lexing.{lexemes_of}
use Rattle.pp_readers.specs.Expressions.{with_front, items, separator, expr_at}
use Rattle.pp_readers.proofs.Steps.{item_goes_on, item_ends, separator_stops, gives_err}
use Rattle.pp_parser.specs.TypeReading.{type_at}
use Rattle.pp_parser.specs.ItemReading.{param_with}
use Rattle.pp_parser.proofs.items.some_params.Goals as goal

pub returns-then-ends : goal.returns-then-ends
returns-then-ends c =
    let ts = lexemes_of c.args.parser.now.tokens.now in
    sym c.loop-turn.invariant
    ∙ item_ends (codes ")") (param_with (expr_at c.args.parser.now.limit) (type_at c.args.parser.now.limit)) c.loop-turn.found c.turns-turn-end.result c.loop-turn._turn (drop c.loop-turn.rest ts) (drop c.in_ok-item.more ts) (drop c.in_ok-ends.more ts) c.in_ok-item.item
    c.loop-turn-test.true c.in_ok-item.ensures (c.in_ok-ends.ensures ∙ ap (λ b. Some (b, drop c.in_ok-ends.more ts)) c.if-ends.true)
    ∙ ap (λ xs. Some (xs, drop c.in_ok-ends.more ts)) (sym c.in_ok-push.ensures.ok)

pub loop-turn-preserved : goal.loop-turn-preserved
loop-turn-preserved c =
    let ts = lexemes_of c.args.parser.now.tokens.now in
    ap (λ xs. with_front xs (items (codes ")") (param_with (expr_at c.args.parser.now.limit) (type_at c.args.parser.now.limit)) (c.turns-turn-end.result - (c.loop-turn._turn + 1)) (drop c.in_ok-ends.more ts))) c.in_ok-push.ensures.ok
    ∙ sym (item_goes_on (codes ")") (param_with (expr_at c.args.parser.now.limit) (type_at c.args.parser.now.limit)) c.loop-turn.found c.turns-turn-end.result c.loop-turn._turn (drop c.loop-turn.rest ts) (drop c.in_ok-item.more ts) (drop c.in_ok-ends.more ts) c.in_ok-item.item
    c.loop-turn-test.true c.in_ok-item.ensures (c.in_ok-ends.ensures ∙ ap (λ b. Some (b, drop c.in_ok-ends.more ts)) c.if-ends.false))
    ∙ c.loop-turn.invariant

pub returns-in_err-ends : goal.returns-in_err-ends
returns-in_err-ends c =
    let ts = lexemes_of c.args.parser.now.tokens.now in
    gives_err (λ x. (x.0, drop x.1 ts)) c.from_residual-in_err-ends.result c.in_err-ends.field-0.0 (separator (codes ")") (drop c.in_ok-item.more ts)) (items (codes ")") (param_with (expr_at c.args.parser.now.limit) (type_at c.args.parser.now.limit)) (length (drop c.args.from ts) + 1) (drop c.args.from ts))
    c.from_residual-in_err-ends.ensures.1 c.in_err-ends.ensures
    (λ none. sym c.loop-turn.invariant
    ∙ separator_stops (codes ")") (param_with (expr_at c.args.parser.now.limit) (type_at c.args.parser.now.limit)) c.loop-turn.found c.turns-turn-end.result c.loop-turn._turn (drop c.loop-turn.rest ts) (drop c.in_ok-item.more ts) c.in_ok-item.item c.loop-turn-test.true c.in_ok-item.ensures none)
