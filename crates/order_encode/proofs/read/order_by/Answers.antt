use Rattle.std.proofs.Common.{◌<◌, ◌^◌, sym, subst, arith}
use Rattle.bool_circuit.specs.Gates.{truth_at}
use Rattle.sym_run.specs.Wires.{number}
use Rattle.order_encode.proofs.KnownLaws.{told_at}
use Rattle.order_encode.proofs.read.order_by.Goals as goal

pub number_of-requires-clause-small : goal.number_of-requires-clause-small
number_of-requires-clause-small c =
    let f = number (truth_at c.args.values.now) in
    let low = told_at f (2 ^ 32) c.args.codes.now c.loop-code.code-index c.code-item.result c.requires.small c.code-item.is c.loop-code-test.true in
    subst (λ ws. f ws < 2 ^ 64) (sym c.as_slice.ensures) (omega (arith, low))

pub overflow_cast-number_of : goal.overflow_cast-number_of
overflow_cast-number_of c =
    let f = number (truth_at c.args.values.now) in
    let low = told_at f (2 ^ 32) c.args.codes.now c.loop-code.code-index c.code-item.result c.requires.small c.code-item.is c.loop-code-test.true in
    let here : f c.as_slice.result.now < 2 ^ 32 = subst (λ ws. f ws < 2 ^ 32) (sym c.as_slice.ensures) low in
    omega (arith, here, c.number_of.ensures)
