use Rattle.std.proofs.Common.{◌+◌, ◌-◌, Some, sym, ap, ◌∙◌, drop}
use Rattle.std.specs.Prelude.{codes}
use Rattle.pp_syntax.specs.Lexing.{lexemes_of}
use Rattle.pp_readers.specs.Expressions.{with_front, items, separator}
use Rattle.pp_readers.proofs.Steps.{item_goes_on, item_ends, separator_stops, gives_err}
use Rattle.pp_readers.specs.Names.{taken}
use Rattle.pp_parser.specs.TypeReading.{quoted_by, texts_in}
use Rattle.pp_parser.proofs.Turns.{item_stops}
use Rattle.pp_parser.proofs.types.texts.Goals as goal

pub returns-then-ends : goal.returns-then-ends
returns-then-ends c =
    let ts = lexemes_of c.args.parser.now.tokens.now in
    sym c.loop-turn.invariant
    ∙ item_ends (codes "]") (taken quoted_by) c.loop-turn.found c.turns-turn-end.result c.loop-turn._turn (drop c.loop-turn.rest ts) (drop c.in_ok-item.more ts) (drop c.in_ok-ends.more ts) c.in_ok-item.item
    c.loop-turn-test.true c.in_ok-item.ensures (c.in_ok-ends.ensures ∙ ap (λ b. Some (b, drop c.in_ok-ends.more ts)) c.if-ends.true)
    ∙ ap (λ xs. Some (xs, drop c.in_ok-ends.more ts)) (sym c.in_ok-push.ensures.ok)

pub loop-turn-preserved : goal.loop-turn-preserved
loop-turn-preserved c =
    let ts = lexemes_of c.args.parser.now.tokens.now in
    ap (λ xs. with_front xs (items (codes "]") (taken quoted_by) (c.turns-turn-end.result - (c.loop-turn._turn + 1)) (drop c.in_ok-ends.more ts))) c.in_ok-push.ensures.ok
    ∙ sym (item_goes_on (codes "]") (taken quoted_by) c.loop-turn.found c.turns-turn-end.result c.loop-turn._turn (drop c.loop-turn.rest ts) (drop c.in_ok-item.more ts) (drop c.in_ok-ends.more ts) c.in_ok-item.item
    c.loop-turn-test.true c.in_ok-item.ensures (c.in_ok-ends.ensures ∙ ap (λ b. Some (b, drop c.in_ok-ends.more ts)) c.if-ends.false))
    ∙ c.loop-turn.invariant

pub returns-in_err-ends : goal.returns-in_err-ends
returns-in_err-ends c =
    let ts = lexemes_of c.args.parser.now.tokens.now in
    gives_err (λ x. (x.0, drop x.1 ts)) c.from_residual-in_err-ends.result c.in_err-ends.field-0.0 (separator (codes "]") (drop c.in_ok-item.more ts)) (texts_in (drop c.args.from ts))
    c.from_residual-in_err-ends.ensures.1 c.in_err-ends.ensures
    (λ none. sym c.loop-turn.invariant
    ∙ separator_stops (codes "]") (taken quoted_by) c.loop-turn.found c.turns-turn-end.result c.loop-turn._turn (drop c.loop-turn.rest ts) (drop c.in_ok-item.more ts) c.in_ok-item.item c.loop-turn-test.true c.in_ok-item.ensures none)

pub returns-in_err-item : goal.returns-in_err-item
returns-in_err-item c =
    let ts = lexemes_of c.args.parser.now.tokens.now in
    gives_err (λ x. (x.0, drop x.1 ts)) c.from_residual.result c.in_err-item.field-0.0 (taken quoted_by (drop c.loop-turn.rest ts)) (texts_in (drop c.args.from ts)) c.from_residual.ensures.1 c.in_err-item.ensures
    (λ none. sym c.loop-turn.invariant ∙ item_stops (codes "]") (taken quoted_by) c.loop-turn.found c.turns-turn-end.result c.loop-turn._turn (drop c.loop-turn.rest ts) c.loop-turn-test.true none)
