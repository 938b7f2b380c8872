use Rattle.std.proofs.Common.{refl, arith}
use Rattle.bool_circuit.specs.Gates.{truth_at}
use Rattle.sym_run.proofs.CircuitLaws.{next_bit}
use Rattle.sym_run.proofs.values.number_of.Goals as goal

pub overflow_mul-n : goal.overflow_mul-n
overflow_mul-n c =
    let next = next_bit (truth_at c.args.values.now) c.loop-wire.n c.args.wires.now c.loop-wire.wire-index _ _ (record { 0 = 0 }) c.loop-wire.invariant c.loop-wire-test.true refl in
    omega (arith, next, c.requires.small)

pub overflow_add-n : goal.overflow_add-n
overflow_add-n c =
    let next = next_bit (truth_at c.args.values.now) c.loop-wire.n c.args.wires.now c.loop-wire.wire-index _ _ _ c.loop-wire.invariant c.loop-wire-test.true c.digit_of.ensures in
    omega (arith, next, c.requires.small)
