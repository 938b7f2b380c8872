-- The formula of the question of order.
use Rattle.std.proofs.Common.{◌≡◌, ℕ, ◌^◌, ◌<◌, ◌≤◌, Bool, true, List, [], ◌∷◌, length, Option, Some, sym, subst, ◌∙◌, arith}
use Rattle.std.proofs.lemmas.List.{length-map}
use Rattle.std.specs.Prelude.{◌↔◌}
use Rattle.std.specs.List.{AllByRecursion}
use Rattle.bool_circuit.specs.declared.gate.Wire.{Wire}
use Rattle.bool_circuit.specs.declared.gate.Gate.{Gate}
use Rattle.bool_circuit.specs.Gates.{wire_value}
use Rattle.cnf.specs.Formulas.{Formula, IsSatisfiable, Satisfies}
use Rattle.cnf.specs.Encoding.{StatesGoal, inputs_in}
use Rattle.fs_semantics.specs.FileTree.{Tree}
use Rattle.fs_semantics.specs.Programs.{Program, Outcome}
use Rattle.fs_semantics.specs.Orders.{Told, IsExchange, IsCounterexample}
use Rattle.path_domain.specs.declared.listed.Domain.{Domain}
use Rattle.fs_interpreter.specs.Meanings.{Valuation, Grows}
use Rattle.fs_interpreter.specs.Places.{Listed}
use Rattle.fs_interpreter.specs.States.{State, state_of}
use Rattle.fs_interpreter.specs.Standing.{Stands, StandsFor}
use Rattle.orders.specs.Relation.{Relation, comes, Comes, IsStrictOrder}
use Rattle.order_places.specs.Places.{exchanged}
use Rattle.sym_run.specs.Wires.{circuit_meanings}
use Rattle.order_circuit.specs.Codes.{node, nodes}
use Rattle.order_circuit.proofs.RunLaws.{nodes_stay}
use Rattle.order_encode.specs.declared.asks.Asks.TheVariants as asks
use Rattle.order_encode.specs.declared.asking.Asking.{Asking}
use Rattle.order_encode.specs.declared.witness.Witness.{Witness}
use Rattle.order_encode.specs.Asked.{IsReadable, Shows}
use Rattle.order_encode.specs.Asking.{IsAsking}
use Rattle.order_encode.specs.Goals.{TellsTree, EndApart}
use Rattle.order_encode.specs.Witnesses.{HaveDifferentOutcomes, AreDifferentNeighbours, ShowsDifference}
use Rattle.order_encode.proofs.GrowthLaws.{still_stands}
use Rattle.order_encode.proofs.WitnessLaws.{Exactly, Long, Found, Placed, strict_is, goal_is_witness, witness_is_goal}

-- cells stand for one tree at most
abbrev pub OneOutcome : Type 0
OneOutcome = (table : Listed) (s : State) (o u : Outcome) → StandsFor table s o → StandsFor table s u → o ≡ u

-- cells stand for one tree only
pub one_tree : OneOutcome → (table : Listed) (s : State) (t u : Tree) → Stands table s t → Stands table s u → t ≡ u
one_tree one table s t u h k = got (one table s (Some t) (Some u) h k)
  where
    got : ◌≡◌ {A = Option Tree} (Some t) (Some u) → t ≡ u
    got e = cc

-- where two orders end differently, two neighbours do
abbrev pub Neighbours : Type 0
Neighbours = (es : List Program) (before : ℕ → ℕ → Bool) (t : Tree) (o p : List ℕ) → IsCounterexample es (Told before) t o p
    → (q : List ℕ) × (r : List ℕ) × IsExchange (Told before) q r × IsCounterexample es (Told before) t q r

-- numbers below a bound are below each greater one
all_below : (m n : ℕ) (order : List ℕ) → m ≤ n → AllByRecursion (λ k. k < m) order → AllByRecursion (λ k. k < n) order
all_below m n [] h all = tt
all_below m n (k ∷ order) h all = (omega (arith, h, all.0), all_below m n order h all.1)

-- what the goal says at these inputs
abbrev pub OrderGoal : List Program → Relation → Domain → List Gate → Asking → Valuation → Type 0
OrderGoal programs order d gates a v = TellsTree d gates a.cells (EndApart programs order (node gates v a.place) (nodes gates v a.codes) (exchanged (node gates v a.place) (nodes gates v a.codes))) v

-- inputs at which the goal holds tell a tree and small numbers
pub order_readable : Exactly → (programs : List Program) (order : Relation) (d : Domain) (old new : List Gate) (a : Asking) (v : Valuation) → IsStrictOrder order → order.count ≤ 2 ^ 32 → IsAsking old d order.count a → Grows (circuit_meanings old) (circuit_meanings new)
    → OrderGoal programs order d old a v → IsReadable new d.table a.cells (asks.Orders a.codes a.place) v
order_readable exactly programs order d old new a v strict small is g told =
    let left = nodes old v a.codes in
    let long = length-map a.codes (node old v) ∙ is.long in
    let first = (exactly order.count (comes order) left (strict_is order strict) long).0 told.held.allowed.first in
    let placed = told.held.allowed.placed in
    let place : node old v a.place < 2 ^ 32 = omega (arith, placed, small) in
    record {
      tree = told.tree;
      is_tree = told.over.is_tree;
      stands = still_stands d.table (Some told.tree) g is.trees.are_cells v told.stands;
      small = (
        subst (λ ns. AllByRecursion (λ k. k < 2 ^ 32) ns) (sym (nodes_stay old new a.codes g is.codes v)) (all_below order.count (2 ^ 32) left small first.below),
        subst (λ n. n < 2 ^ 32) (sym (g.code a.place is.place v)) place,
      );
    }

-- the formula has a model exactly where two orders end differently from some tree over the domain
pub order_exact : Exactly → Long → Found → Placed → Neighbours → (programs : List Program) (order : Relation) (d : Domain) (old new : List Gate) (a : Asking) (w : Wire) (f : Formula) → IsStrictOrder order → length programs ≡ order.count → IsAsking old d order.count a
    → ((v : Valuation) → (wire_value new v w.0 ≡ true) ↔ OrderGoal programs order d old a v) → StatesGoal new w.0 f
    → IsSatisfiable f ↔ HaveDifferentOutcomes programs (Comes order) d
order_exact exactly lng found placed neighbours programs order d old new a w f strict same is exact states = (
  (λ sat.
      let v = inputs_in sat.0 in
      let told = (exact v).0 (states.models sat.0 sat.1) in
      let long = length-map a.codes (node old v) ∙ is.long in
      let apart = goal_is_witness exactly found programs order d strict same (node old v a.place) (nodes old v a.codes) told.tree long told.over told.held in
      record { tree = told.tree; left = nodes old v a.codes; right = exchanged (node old v a.place) (nodes old v a.codes); over = apart.over; counterexample = apart.counterexample }),
  (λ h.
      let near = neighbours programs (comes order) h.tree h.left h.right h.counterexample in
      let told = witness_is_goal exactly lng placed programs order d old a strict same is h.tree near.0 near.1 record { over = h.over; exchange = near.2; counterexample = near.3 } in
      let model = states.inputs told.0 ((exact told.0).1 told.1) in
      (model.0, model.2)),
)

-- and a witness that a model tells shows two neighbours that end differently
pub order_models : OneOutcome → Exactly → Found → (programs : List Program) (order : Relation) (d : Domain) (old new : List Gate) (a : Asking) (goal : Wire) (f : Formula) → IsStrictOrder order → length programs ≡ order.count → IsAsking old d order.count a → Grows (circuit_meanings old) (circuit_meanings new)
    → ((v : Valuation) → (wire_value new v goal.0 ≡ true) ↔ OrderGoal programs order d old a v) → StatesGoal new goal.0 f
    → (v : ℕ → Bool) → Satisfies v f.clauses → (w : Witness) → Shows (record { gates = new; table = d.table; cells = a.cells; asks = asks.Orders a.codes a.place; formula = f }) (inputs_in v) w → ShowsDifference programs (Comes order) d w
order_models one exactly found programs order d old new a goal f strict same is g exact states u sat w shows =
    let v = inputs_in u in
    let told = (exact v).0 (states.models u sat) in
    let long = length-map a.codes (node old v) ∙ is.long in
    let j = node old v a.place in
    let left = nodes old v a.codes in
    let apart = goal_is_witness exactly found programs order d strict same j left told.tree long told.over told.held in
    let stands = still_stands d.table (Some told.tree) g is.trees.are_cells v told.stands in
    let tree = one_tree one d.table (state_of (circuit_meanings new) v a.cells) told.tree shows.0 stands shows.1 in
    let left_is = nodes_stay old new a.codes g is.codes v in
    let place_is = g.code a.place is.place v in
    subst (ShowsDifference programs (Comes order) d) (sym shows.2)
    (subst (λ t. AreDifferentNeighbours programs (Comes order) d t (nodes new v a.codes) (exchanged (node new v a.place) (nodes new v a.codes))) tree
    (subst (λ k. AreDifferentNeighbours programs (Comes order) d told.tree (nodes new v a.codes) (exchanged k (nodes new v a.codes))) (sym place_is)
    (subst (λ ns. AreDifferentNeighbours programs (Comes order) d told.tree ns (exchanged j ns)) (sym left_is) apart)))
