-- The inputs of a question of order.
use Rattle.std.specs.Prelude.{◌≡◌, ◌↔◌, ℕ, ◌<◌, true, List, length}
use Rattle.std.specs.List.{AllByRecursion}
use Rattle.bool_circuit.specs.declared.gate.Wire.{Wire}
use Rattle.bool_circuit.specs.declared.gate.Gate.{Gate}
use Rattle.bool_circuit.specs.Gates.{wire_value}
use Rattle.fs_semantics.specs.FileTree.{Tree}
use Rattle.fs_semantics.specs.Programs.{Program}
use Rattle.path_domain.specs.declared.listed.Domain.{Domain}
use Rattle.fs_interpreter.specs.Meanings.{Valuation, Grows}
use Rattle.fs_interpreter.specs.States.{AreCells, state_of}
use Rattle.fs_interpreter.specs.Standing.{Stands}
use Rattle.fs_interpreter.specs.declared.cells.Cells.{Cells}
use Rattle.orders.specs.Relation.{Relation}
use Rattle.order_places.specs.Places.{exchanged}
use Rattle.sym_run.specs.Wires.{AreWires, circuit_meanings}
use Rattle.sym_run.specs.Trees.{IsTreeOver}
use Rattle.order_circuit.specs.Codes.{AreRows, node, nodes}
use Rattle.order_encode.specs.declared.asking.Asking.{Asking}
use Rattle.order_encode.specs.Goals.{TellsTree, EndApart}

-- The wire is true under just the valuations under which the cells stand for a tree over the domain.
pub record AreTrees {B : Type 0} (gates : List Gate) (d : Domain) (cells : Cells B Wire (List Wire)) (well : Wire) : Type 0 where
  pub are_cells : AreCells (circuit_meanings gates) cells
  pub places : length cells.present ≡ length d.table.paths
  pub owned : well.0 < length gates
  pub exact : (v : Valuation) → (wire_value gates v well.0 ≡ true)
      ↔ ((t : Tree) × IsTreeOver d t × Stands d.table (state_of (circuit_meanings gates) v cells) t)

-- Together with the codes the cells can stand for each tree, each list of nodes and each place.
pub record IsAsking (gates : List Gate) (d : Domain) (n : ℕ) (a : Asking) : Type 0 where
  pub trees : AreTrees gates d a.cells a.well
  pub long : length a.codes ≡ n
  pub codes : AreRows gates a.codes
  pub place : AreWires gates a.place
  pub every : (t : Tree) → IsTreeOver d t → (order : List ℕ) → length order ≡ n → AllByRecursion (λ k. k < n) order → (j : ℕ) → j < n
      → (v : Valuation) × Stands d.table (state_of (circuit_meanings gates) v a.cells) t
      × (nodes gates v a.codes ≡ order) × (node gates v a.place ≡ j)

-- In a circuit that has grown since the inputs were made the wire tells whether they tell a tree and two orders that end differently.
pub record AsksOfOrders (programs : List Program) (order : Relation) (d : Domain) (gates : List Gate) (a : Asking) (goal : Wire) : Type 0 where
  pub before : List Gate
  pub asking : IsAsking before d order.count a
  pub grows : Grows (circuit_meanings before) (circuit_meanings gates)
  pub exact : (v : Valuation) → (wire_value gates v goal.0 ≡ true)
      ↔ TellsTree d before a.cells (EndApart programs order (node before v a.place) (nodes before v a.codes) (exchanged (node before v a.place) (nodes before v a.codes))) v
