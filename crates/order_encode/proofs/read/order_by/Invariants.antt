use Rattle.std.proofs.Common.{◌≡◌, ◌++◌, drop, map}
use Rattle.bool_circuit.specs.Gates.{truth_at}
use Rattle.sym_run.specs.Wires.{number}
use Rattle.order_encode.proofs.read.order_by.Given as goal

-- the nodes so far, with those that are left, are all
abbrev pub invariant-loop-code : goal.invariant-loop-code
invariant-loop-code l = l.order ++ map (number (truth_at l.values)) (drop l.code-index l.codes) ≡ map (number (truth_at l.values)) l.codes
