-- The formulas of the questions about one order.
use Rattle.std.proofs.Common.{◌≡◌, ℕ, true, List, length, Some, sym, subst}
use Rattle.std.specs.Prelude.{◌↔◌}
use Rattle.bool_circuit.specs.declared.gate.Wire.{Wire}
use Rattle.bool_circuit.specs.declared.gate.Gate.{Gate}
use Rattle.bool_circuit.specs.Gates.{wire_value}
use Rattle.cnf.specs.Formulas.{Formula, IsSatisfiable}
use Rattle.cnf.specs.Encoding.{StatesGoal, inputs_in}
use Rattle.fs_semantics.specs.FileTree.{Tree}
use Rattle.fs_semantics.specs.Programs.{Program}
use Rattle.fs_semantics.specs.Orders.{IsLinearExtension}
use Rattle.path_domain.specs.declared.listed.Domain.{Domain}
use Rattle.fs_interpreter.specs.Meanings.{Valuation, Grows}
use Rattle.fs_interpreter.specs.States.{state_of}
use Rattle.fs_interpreter.specs.Standing.{Stands}
use Rattle.fs_interpreter.specs.declared.cells.Cells.{Cells}
use Rattle.orders.specs.Relation.{Relation, Comes}
use Rattle.sym_run.specs.Wires.{circuit_meanings}
use Rattle.sym_run.specs.Trees.{IsTreeOver}
use Rattle.order_encode.specs.declared.witness.Witness.{Witness}
use Rattle.order_encode.specs.declared.witness.Witness.TheVariants as witness
use Rattle.order_encode.specs.declared.asks.Asks.{Asks}
use Rattle.order_encode.specs.Asked.{Asked, AreSmallBy, IsReadAs, IsReadable, Shows, CanShow}
use Rattle.order_encode.specs.Asking.{AreTrees}
use Rattle.order_encode.specs.Goals.{TellsTree, ChangesTwice, Ends}
use Rattle.order_encode.specs.Witnesses.{IsFirstExtension, IsChangedAgain, IsEndedFrom, HasSecondChange, HasEnd, ShowsChange, ShowsEnd}
use Rattle.order_encode.proofs.GrowthLaws.{still_stands}
use Rattle.order_encode.proofs.WitnessLaws.{Long, first_same}
use Rattle.order_encode.proofs.OrderLaws.{OneOutcome, one_tree}

-- The cells can stand for each tree over the domain, and in the circuit as it has grown the goal tells whether P holds of the
-- one for which they stand.
pub record AsksOfTrees {B : Type 0} (d : Domain) (old new : List Gate) (cells : Cells B Wire (List Wire)) (well goal : Wire) (P : Tree → Type 0) : Type 0 where
  pub trees : AreTrees old d cells well
  pub every : (t : Tree) → IsTreeOver d t → (v : Valuation) × Stands d.table (state_of (circuit_meanings old) v cells) t
  pub grows : Grows (circuit_meanings old) (circuit_meanings new)
  pub exact : (v : Valuation) → (wire_value new v goal.0 ≡ true) ↔ TellsTree d old cells P v

module _ {B : Type 0} {d : Domain} {old new : List Gate} {cells : Cells B Wire (List Wire)} {well goal : Wire} {P : Tree → Type 0} (is : AsksOfTrees d old new cells well goal P) where
  -- the cells stand for the tree that is told as the circuit grows, too
  told_stands : (v : Valuation) → (told : TellsTree d old cells P v) → Stands d.table (state_of (circuit_meanings new) v cells) told.tree
  told_stands v told = still_stands d.table (Some told.tree) is.grows is.trees.are_cells v told.stands

  -- where the numbers that codes tell are small, each model can be read
  pub readable : {a : Asks} → ((v : Valuation) → AreSmallBy (wire_value new v) a) → (v : Valuation) → wire_value new v goal.0 ≡ true → IsReadable new d.table cells a v
  readable small v h =
      let told = (is.exact v).0 h in
      record { tree = told.tree; is_tree = told.over.is_tree; stands = told_stands v told; small = small v }

  -- the formula has a model exactly where some tree over the domain has the property
  pub tree_exact : (f : Formula) → StatesGoal new goal.0 f → IsSatisfiable f ↔ ((t : Tree) × IsTreeOver d t × P t)
  tree_exact f states = (
    (λ sat. let told = (is.exact (inputs_in sat.0)).0 (states.models sat.0 sat.1) in (told.tree, told.over, told.held)),
    (λ h.
        let told = is.every h.0 h.1 in
        let model = states.inputs told.0 ((is.exact told.0).1 record { tree = h.0; over = h.1; stands = told.1; held = h.2 }) in
        (model.0, model.2)),
  )

  -- a witness that a model tells has a tree with the property, and what was asked
  pub tree_shown : OneOutcome → {a : Asks} (q : Asked B) → q ≡ record { gates = new; table = d.table; cells = cells; asks = a; formula = q.formula } → StatesGoal new goal.0 q.formula
      → (w : Witness) → (can : CanShow q w) → (t : Tree) × (IsTreeOver d t × P t) × IsReadAs (wire_value new (inputs_in can.0)) a t w
  tree_shown one q holds states w can =
      let v = can.0 in
      let seen = subst (λ (x : Asked B). Shows x (inputs_in v) w) holds can.2 in
      let told = (is.exact (inputs_in v)).0 (states.models v can.1) in
      let same = one_tree one d.table (state_of (circuit_meanings new) (inputs_in v) cells) told.tree seen.0 (told_stands (inputs_in v) told) seen.1 in
      (seen.0, (subst (IsTreeOver d) same told.over, subst P same told.held), seen.2)

-- what is asked of an order, as it is lent
pub asks_order : {B : Type 0} {d : Domain} {old new : List Gate} {cells : Cells B Wire (List Wire)} {well goal : Wire} {lent order : List ℕ} (P : List ℕ → Tree → Type 0) → lent ≡ order
    → AreTrees old d cells well → ((t : Tree) → IsTreeOver d t → (v : Valuation) × Stands d.table (state_of (circuit_meanings old) v cells) t) → Grows (circuit_meanings old) (circuit_meanings new)
    → ((v : Valuation) → (wire_value new v goal.0 ≡ true) ↔ TellsTree d old cells (P lent) v) → AsksOfTrees d old new cells well goal (P order)
asks_order {d = d} {old = old} {new = new} {cells = cells} {goal = goal} P same trees every grows exact = record {
  trees = trees;
  every = every;
  grows = grows;
  exact = λ v. subst (λ o. (wire_value new v goal.0 ≡ true) ↔ TellsTree d old cells (P o) v) same (exact v);
}

module _ (programs : List Program) (order : Relation) (d : Domain) (first : List ℕ) (is_first : IsFirstExtension order first) where
  -- ---- a second run

  -- a tree from which the first extension's second run changes something shows such a change
  change_is : length programs ≡ order.count → (t : Tree) → IsTreeOver d t → ChangesTwice programs first t → IsChangedAgain programs order d t first
  change_is same t over h = record {
    is_first = is_first;
    over = over.is_over;
    counterexample = record {
      is_tree = over.is_tree;
      allowed = subst (λ n. IsLinearExtension n (Comes order) first) (sym same) is_first.allowed;
      after = h.0;
      ends = h.1;
      changes = h.2;
    };
  }

  -- the formula has a model exactly where a second run changes something from some tree
  pub change_exact : {S : Type 0} → Long → length programs ≡ order.count → S ↔ ((t : Tree) × IsTreeOver d t × ChangesTwice programs first t) → S ↔ HasSecondChange programs order d
  change_exact long same exact = (
    (λ s. let h = exact.0 s in record { tree = h.0; first = first; changed = change_is same h.0 h.1 h.2 }),
    (λ h.
        let w = h.changed in
        let one = first_same long order h.first first w.is_first is_first in
        exact.1 (h.tree, record { is_tree = w.counterexample.is_tree; is_over = w.over }, subst (λ o. ChangesTwice programs o h.tree) one (w.counterexample.after, w.counterexample.ends, w.counterexample.changes))),
  )

  -- and a witness with such a tree shows that it does
  pub change_shown : (w : Witness) → length programs ≡ order.count → (t : Tree) × (IsTreeOver d t × ChangesTwice programs first t) × (w ≡ witness.Twice t first) → ShowsChange programs order d w
  change_shown w same h = subst (ShowsChange programs order d) (sym h.2) (change_is same h.0 h.1.0 h.1.1)

  -- ---- an end

  -- a tree from which the first extension ends in a tree shows such an end
  end_is : (t : Tree) → IsTreeOver d t → Ends programs first t → IsEndedFrom programs order d t first
  end_is t over h = record { is_first = is_first; is_tree = over.is_tree; over = over.is_over; ends = h }

  -- the formula has a model exactly where the first extension ends in a tree from some tree
  pub end_exact : {S : Type 0} → Long → S ↔ ((t : Tree) × IsTreeOver d t × Ends programs first t) → S ↔ HasEnd programs order d
  end_exact long exact = (
    (λ s. let h = exact.0 s in record { tree = h.0; first = first; ended = end_is h.0 h.1 h.2 }),
    (λ h.
        let w = h.ended in
        let one = first_same long order h.first first w.is_first is_first in
        exact.1 (h.tree, record { is_tree = w.is_tree; is_over = w.over }, subst (λ o. Ends programs o h.tree) one w.ends)),
  )

  -- and a witness with such a tree shows that it does
  pub end_shown : (w : Witness) → (t : Tree) × (IsTreeOver d t × Ends programs first t) × (w ≡ witness.Ends t first) → ShowsEnd programs order d w
  end_shown w h = subst (ShowsEnd programs order d) (sym h.2) (end_is h.0 h.1.0 h.1.1)
