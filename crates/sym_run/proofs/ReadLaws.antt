-- What cells tell once the values of all wires are known.
use Rattle.std.proofs.Common.{◌≡◌, ◌<◌, Bool, List, length, sym, ap, subst}
use Rattle.std.specs.List.{AllByRecursion}
use Rattle.bool_circuit.specs.declared.gate.Wire.{Wire}
use Rattle.bool_circuit.specs.declared.gate.Gate.{Gate}
use Rattle.bool_circuit.specs.Gates.{truth_at, wire_values}
use Rattle.fs_interpreter.specs.States.{AreCells, state_of}
use Rattle.fs_interpreter.specs.declared.cells.Cells.{Cells}
use Rattle.sym_run.specs.Wires.{circuit_meanings, value_meanings, told_state}

-- what cells tell by the values of all wires is what they tell under the valuation
pub told_as : {B : Type 0} (gates : List Gate) (inputs values : List Bool) (cells : Cells B Wire (List Wire)) → values ≡ wire_values (truth_at inputs) gates
    → told_state values cells ≡ state_of (circuit_meanings gates) (truth_at inputs) cells
told_as gates inputs values cells e = ap (λ vs. told_state vs cells) e

-- cells of a circuit are cells over the values of its wires
pub told_cells : {B : Type 0} (gates : List Gate) (values : List Bool) (cells : Cells B Wire (List Wire)) → length values ≡ length gates → AreCells (circuit_meanings gates) cells → AreCells (value_meanings values) cells
told_cells gates values cells e own = record {
  folders = own.folders;
  links = own.links;
  contents = own.contents;
  present = λ i w at. subst (λ n. w.0 < n) (sym e) (own.present i w at);
  folder = λ i w at. subst (λ n. w.0 < n) (sym e) (own.folder i w at);
  link = λ i w at. subst (λ n. w.0 < n) (sym e) (own.link i w at);
  content = λ i ws at. subst (λ n. AllByRecursion (λ (w : Wire). w.0 < n) ws) (sym e) (own.content i ws at);
  error = subst (λ n. cells.error.0 < n) (sym e) own.error;
}
