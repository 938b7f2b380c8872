-- A question as it stands: the circuit that its formula states, and what a valuation of the inputs tells.
use Rattle.std.specs.Prelude.{◌≡◌, ℕ, ◌<◌, ◌≤◌, ◌^◌, Bool, List, length, map}
use Rattle.std.specs.List.{AllByRecursion}
use Rattle.bool_circuit.specs.declared.gate.Wire.{Wire}
use Rattle.bool_circuit.specs.declared.gate.Gate.{Gate}
use Rattle.bool_circuit.specs.Gates.{input_count, wire_value}
use Rattle.fs_semantics.specs.FileTree.{Tree, IsTree}
use Rattle.fs_interpreter.specs.Places.{Listed}
use Rattle.fs_interpreter.specs.Meanings.{Valuation}
use Rattle.fs_interpreter.specs.States.{AreCells, state_of}
use Rattle.fs_interpreter.specs.Standing.{Stands}
use Rattle.fs_interpreter.specs.declared.cells.Cells.{Cells}
use Rattle.cnf.specs.Formulas.{Formula, Satisfies}
use Rattle.cnf.specs.Encoding.{inputs_in}
use Rattle.order_places.specs.Places.{exchanged}
use Rattle.sym_run.specs.Wires.{number, circuit_meanings}
use Rattle.order_encode.specs.declared.asks.Asks.{Asks}
use Rattle.order_encode.specs.declared.asks.Asks.TheVariants as asks
use Rattle.order_encode.specs.declared.witness.Witness.{Witness}
use Rattle.order_encode.specs.declared.witness.Witness.TheVariants as witness

-- The circuit, the cells of the tree, what is asked, and the formula.
pub record Asked (B : Type 0) : Type 0 where
  pub gates : List Gate
  pub table : Listed
  pub cells : Cells B Wire (List Wire)
  pub asks : Asks
  pub formula : Formula

-- the codes are of wires below n
abbrev pub AreWithin : ℕ → Asks → Type 0
AreWithin n (asks.Orders codes place) = AllByRecursion (λ ws. AllByRecursion (λ w. w.0 < n) ws) codes × AllByRecursion (λ w. w.0 < n) place
AreWithin n (asks.Twice order) = Unit {0}
AreWithin n (asks.Ends order) = Unit {0}

-- the numbers that the codes tell by these values are small
abbrev pub AreSmallBy : (ℕ → Bool) → Asks → Type 0
AreSmallBy values (asks.Orders codes place) = AllByRecursion (λ k. k < 2 ^ 32) (map (number values) codes) × (number values place < 2 ^ 32)
AreSmallBy values (asks.Twice order) = Unit {0}
AreSmallBy values (asks.Ends order) = Unit {0}

-- The witness has this tree, and beside it the order that the codes tell by these values, and the same with the nodes at the
-- place and the next exchanged; or the order that was asked about.
abbrev pub IsReadAs : (ℕ → Bool) → Asks → Tree → Witness → Type 0
IsReadAs values (asks.Orders codes place) tree w = w ≡ witness.Orders tree (map (number values) codes)
    (exchanged (number values place) (map (number values) codes))
IsReadAs values (asks.Twice order) tree w = w ≡ witness.Twice tree order
IsReadAs values (asks.Ends order) tree w = w ≡ witness.Ends tree order

-- the inputs tell a tree, and numbers that are small
pub record IsReadable {B : Type 0} (gates : List Gate) (table : Listed) (cells : Cells B Wire (List Wire)) (a : Asks)
    (v : Valuation) : Type 0 where
  pub tree : Tree
  pub is_tree : IsTree tree
  pub stands : Stands table (state_of (circuit_meanings gates) v cells) tree
  pub small : AreSmallBy (wire_value gates v) a

-- What a question keeps, so that each model of its formula can be read.
pub record IsAsked {B : Type 0} (q : Asked B) : Type 0 where
  pub cells : AreCells (circuit_meanings q.gates) q.cells
  pub places : length q.cells.present ≡ length q.table.paths
  pub codes : AreWithin (length q.gates) q.asks
  pub variables : input_count q.gates ≤ q.formula.vars
  pub readable : (v : ℕ → Bool) → Satisfies v q.formula.clauses → IsReadable q.gates q.table q.cells q.asks (inputs_in v)

-- The witness is what the inputs tell: the tree for which the cells stand, with what is asked.
abbrev pub Shows : {B : Type 0} → Asked B → Valuation → Witness → Type 0
Shows q v w = (tree : Tree) × Stands q.table (state_of (circuit_meanings q.gates) v q.cells) tree
    × IsReadAs (wire_value q.gates v) q.asks tree w

-- some model of the formula tells this witness
abbrev pub CanShow : {B : Type 0} → Asked B → Witness → Type 0
CanShow q w = (v : ℕ → Bool) × Satisfies v q.formula.clauses × Shows q (inputs_in v) w
