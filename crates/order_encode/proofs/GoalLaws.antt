-- What wires that are asked for tell of the tree for which the cells stand.
use Rattle.std.proofs.Common.{◌≡◌, ◌≢◌, ℕ, ◌-◌, ◌<◌, Bool, true, false, List, Option, Some, None, IsSome, nat_lt, refl, sym, ap, subst, ◌∙◌, ltb-true}
use Rattle.std.proofs.lemmas.Bool.{lt-ltb, and_parts, and_from}
use Rattle.std.specs.Prelude.{◌↔◌, ◌&&◌, not, Result, Ok, Err, IfOk}
use Rattle.bool_circuit.specs.declared.gate.Wire.{Wire}
use Rattle.bool_circuit.specs.declared.gate.Gate.{Gate}
use Rattle.bool_circuit.specs.Gates.{wire_value}
use Rattle.fs_semantics.specs.FileTree.{Tree}
use Rattle.fs_semantics.specs.Programs.{Program, Outcome, and_then}
use Rattle.fs_semantics.specs.Orders.{outcome}
use Rattle.path_domain.specs.declared.listed.Domain.{Domain}
use Rattle.fs_interpreter.specs.Meanings.{Valuation, Grows}
use Rattle.fs_interpreter.specs.Places.{Listed}
use Rattle.fs_interpreter.specs.States.{State, state_of}
use Rattle.fs_interpreter.specs.Standing.{Stands, StandsFor}
use Rattle.fs_interpreter.specs.declared.cells.Cells.{Cells}
use Rattle.orders.specs.Relation.{Relation, comes}
use Rattle.order_places.specs.Places.{is_in_order}
use Rattle.sym_run.specs.Wires.{circuit_meanings}
use Rattle.order_encode.specs.Asking.{AreTrees}
use Rattle.order_encode.specs.Goals.{TellsTree, AreAllowed, EndApart}

-- false isn't true
false_not_true : {P : Type 0} → false ≡ true → P
false_not_true e = cc

-- what follows from two properties of an Ok result holds of it
pub if_ok_both : {X E : Type 0} (P Q R : X → Type 0) (r : Result X E) → ((x : X) → P x → Q x → R x) → IfOk r P → IfOk r Q → IfOk r R
if_ok_both P Q R (Ok x) f h k = f x h k
if_ok_both P Q R (Err e) f h k = tt

-- what is the same tells the same
pub tells_same : {P : Type 0} {a b : Bool} → a ≡ b → (b ≡ true) ↔ P → (a ≡ true) ↔ P
tells_same same h = ((λ e. h.0 (sym same ∙ e)), (λ p. same ∙ h.1 p))

-- the opposite of a truth value is true exactly where what that says doesn't hold
pub not_is : {P : Type 0} (b : Bool) → (b ≡ true) ↔ P → (not b ≡ true) ↔ (P → ⊥)
not_is true h = (λ e. false_not_true e, λ k. absurd (k (h.0 refl)))
not_is false h = (λ e p. false_not_true (h.1 p), λ k. refl)

-- both orders are allowed, and the place has a next one
pub allowed_is : (order : Relation) (j last : ℕ) (left right : List ℕ) → last ≡ order.count - 1
    → ((((is_in_order (comes order) order.count left && is_in_order (comes order) order.count right) && nat_lt j last)) ≡ true) ↔ AreAllowed order j left right
allowed_is order j last left right e = (
  (λ h.
      let parts = and_parts (is_in_order (comes order) order.count left && is_in_order (comes order) order.count right) (nat_lt j last) h in
      let both = and_parts (is_in_order (comes order) order.count left) (is_in_order (comes order) order.count right) parts.0 in
      record { first = both.0; second = both.1; placed = subst (λ n. j < n) e (ltb-true j last parts.1) }),
  (λ h. and_from _ _ (and_from _ _ h.first h.second) (lt-ltb j last (subst (λ n. j < n) (sym e) h.placed))),
)

-- the inputs tell a tree over the domain of which it holds, where the cells are well and it holds of what they stand for
pub tells_is : {B : Type 0} (gates : List Gate) (d : Domain) (cells : Cells B Wire (List Wire)) (well : Wire) (P : Tree → Type 0) (v : Valuation) (e : Bool) → AreTrees gates d cells well
    → ((t : Tree) → Stands d.table (state_of (circuit_meanings gates) v cells) t → (e ≡ true) ↔ P t)
    → ((wire_value gates v well.0 && e) ≡ true) ↔ TellsTree d gates cells P v
tells_is gates d cells well P v e trees holds = (
  (λ h.
      let parts = and_parts (wire_value gates v well.0) e h in
      let told = (trees.exact v).0 parts.0 in
      record { tree = told.0; over = told.1; stands = told.2; held = (holds told.0 told.2).0 parts.1 }),
  (λ k. and_from _ _ ((trees.exact v).1 (k.tree, k.over, k.stands)) ((holds k.tree k.stands).1 k.held)),
)

-- the same of a wire that says both
pub goal_is : {B : Type 0} {old : List Gate} {d : Domain} {cells : Cells B Wire (List Wire)} {well : Wire} (mid new : List Gate) (e w : Wire) (P : Tree → Type 0) → AreTrees old d cells well → Grows (circuit_meanings old) (circuit_meanings mid)
    → ((v : Valuation) (t : Tree) → Stands d.table (state_of (circuit_meanings old) v cells) t → (wire_value mid v e.0 ≡ true) ↔ P t)
    → ((v : Valuation) → wire_value new v w.0 ≡ (wire_value mid v well.0 && wire_value mid v e.0))
    → (v : Valuation) → (wire_value new v w.0 ≡ true) ↔ TellsTree d old cells P v
goal_is {old = old} {d = d} {cells = cells} {well = well} mid new e w P trees g holds both v = tells_same (both v ∙ ap (λ b. b && wire_value mid v e.0) (g.bit well trees.owned v)) (tells_is old d cells well P v (wire_value mid v e.0) trees (holds v))

-- the cells are well, both orders are allowed, and they end differently
pub apart_is : {B : Type 0} (gates : List Gate) (d : Domain) (cells : Cells B Wire (List Wire)) (well : Wire) (programs : List Program) (order : Relation) (j : ℕ) (left right : List ℕ) (v : Valuation) (a b : Bool) → AreTrees gates d cells well
    → (a ≡ true) ↔ AreAllowed order j left right
    → ((t : Tree) → Stands d.table (state_of (circuit_meanings gates) v cells) t → AreAllowed order j left right → (b ≡ true) ↔ (outcome programs left t ≢ outcome programs right t))
    → (((wire_value gates v well.0 && a) && b) ≡ true) ↔ TellsTree d gates cells (EndApart programs order j left right) v
apart_is gates d cells well programs order j left right v a b trees allowed differ = (
  (λ h. whole.0 (regroup (wire_value gates v well.0) ∙ h)),
  (λ k. sym (regroup (wire_value gates v well.0)) ∙ whole.1 k),
)
  where
    regroup : (w : Bool) → (w && (a && b)) ≡ ((w && a) && b)
    regroup true = refl
    regroup false = refl

    whole : ((wire_value gates v well.0 && (a && b)) ≡ true) ↔ TellsTree d gates cells (EndApart programs order j left right) v
    whole = tells_is gates d cells well (EndApart programs order j left right) v (a && b) trees (λ t h. (
      (λ e. let parts = and_parts a b e in let fine = allowed.0 parts.0 in record { allowed = fine; differ = (differ t h fine).0 parts.1 }),
      (λ k. and_from a b (allowed.1 k.allowed) ((differ t h k.allowed).1 k.differ)),
    ))

-- ---- one order

-- no error is told exactly where the outcome is a tree
pub ends_is : (table : Listed) (s : State) (o : Outcome) → StandsFor table s o → (not s.error ≡ true) ↔ IsSome o
ends_is table s None h = ((λ e. false_not_true (sym (ap not h) ∙ e)), (λ k. cc))
ends_is table s (Some t) h = ((λ e. refl), (λ k. ap not h.no_error))

-- no error is told, and it is other again, exactly where the outcome is a tree that f doesn't leave as it is
pub changes_is : (table : Listed) (s : State) (f : Tree → Outcome) (o : Outcome) (other : Bool) → StandsFor table s o → (other ≡ true) ↔ (o ≢ and_then o f)
    → ((not s.error && other) ≡ true) ↔ ((u : Tree) × (o ≡ Some u) × (f u ≢ Some u))
changes_is table s f None other h k = ((λ e. false_not_true (sym (ap (λ b. not b && other) h) ∙ e)), (λ w. let none = w.1 in cc))
changes_is table s f (Some t) other h k = (
  (λ e.
      let apart = k.0 (and_parts (not s.error) other e).1 in
      (t, refl, λ q. apart (sym q))),
  (λ w.
      let is : t ≡ w.0 = got w.0 w.1 in
      and_from (not s.error) other (ap not h.no_error) (k.1 (λ q. w.2 (subst (λ x. f x ≡ Some x) is (sym q))))),
)
  where
    got : (u : Tree) → ◌≡◌ {A = Option Tree} (Some t) (Some u) → t ≡ u
    got u e = cc
