use Rattle.std.proofs.Common.{◌≡◌, ◌+◌, length, true}
use Rattle.bool_circuit.specs.Gates.{truth_at}
use Rattle.cnf.specs.Defining.{NeededFrom}
use Rattle.cnf.proofs.encode.needed_wires.Given as goal

abbrev pub invariant-loop-w : goal.invariant-loop-w
invariant-loop-w l = record {
  long : length l.needed.items ≡ l.goal + 1;
  goal : truth_at l.needed.items l.goal ≡ true;
  closed : NeededFrom l.circuit l.needed.items l.w;
}
