use Rattle.std.proofs.Common.{◌≡◌, drop}
use Rattle.bool_circuit.specs.Gates.{truth_at}
use Rattle.sym_run.specs.Wires.{number, number_on}
use Rattle.sym_run.proofs.values.number_of.Given as goal

-- the number so far, with the rest behind it, is the whole
abbrev pub invariant-loop-wire : goal.invariant-loop-wire
invariant-loop-wire l = number_on (truth_at l.values) l.n (drop l.wire-index l.wires) ≡ number (truth_at l.values) l.wires
