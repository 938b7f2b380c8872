use Rattle.std.proofs.Common.{◌+◌, ◌*◌, sym, ◌∙◌}
use Rattle.pp_readers.proofs.Digits.{four_next, four_large}
use Rattle.pp_expression.proofs.unquoting.+four.Goals as goal

pub returns-then-next-gt1114111-clause-value : goal.returns-then-next-gt1114111-clause-value
returns-then-next-gt1114111-clause-value t c =
    four_next c.args.count c.args.value c.in_ok-digit.digit c.args.text.now c.in_ok-digit.rest.now (sym c.in_ok-digit.ensures) c.if-count-eq3.false
    ∙ four_large (c.args.count + 1) (c.args.value * 16 + c.in_ok-digit.digit) c.in_ok-digit.rest.now c.if-next-gt1114111.true
