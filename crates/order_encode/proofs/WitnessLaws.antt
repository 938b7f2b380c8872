-- What the goals say is that there is a witness.
use Rattle.std.proofs.Common.{◌≡◌, ℕ, zero, suc, ◌+◌, ◌<◌, Bool, true, List, [], ◌∷◌, ◌++◌, length, refl, sym, ap, subst, ◌∙◌, arith}
use Rattle.std.specs.Prelude.{◌↔◌}
use Rattle.bool_circuit.specs.declared.gate.Gate.{Gate}
use Rattle.fs_semantics.specs.FileTree.{Tree}
use Rattle.fs_semantics.specs.Programs.{Program}
use Rattle.fs_semantics.specs.Orders.{Told, IsLinearExtension, outcome}
use Rattle.path_domain.specs.declared.listed.Domain.{Domain}
use Rattle.fs_interpreter.specs.Meanings.{Valuation}
use Rattle.orders.specs.Relation.{Relation, comes, Comes, IsStrictOrder}
use Rattle.orders.specs.Extensions.{IsLeastReady, TakesLeast}
use Rattle.order_places.specs.Places.{exchanged, is_in_order, IsStrict, AreNeighbours}
use Rattle.sym_run.specs.Trees.{IsTreeOver}
use Rattle.order_circuit.specs.Codes.{node, nodes}
use Rattle.order_encode.specs.Goals.{TellsTree, EndApart}
use Rattle.order_encode.specs.Witnesses.{AreDifferentNeighbours, IsFirstExtension}
use Rattle.order_encode.specs.Asking.{IsAsking}
use Rattle.order_encode.specs.declared.asking.Asking.{Asking}

-- an order of nodes is strict place by place
pub strict_is : (order : Relation) → IsStrictOrder order → IsStrict order.count (comes order)
strict_is order h = record { within = λ a b e. (h.within a b e).0; never_itself = h.never_itself }

-- an order is told to be allowed exactly where it is
abbrev pub Exactly : Type 0
Exactly = (n : ℕ) (before : ℕ → ℕ → Bool) (order : List ℕ) → IsStrict n before → length order ≡ n → (is_in_order before n order ≡ true) ↔ IsLinearExtension n (Told before) order

-- an allowed order has as many nodes as there are
abbrev pub Long : Type 0
Long = (n : ℕ) (before : ℕ → ℕ → Bool) (order : List ℕ) → IsLinearExtension n (Told before) order → length order ≡ n

-- two allowed orders, of which one is the other with an exchange at a place, are neighbours
abbrev pub Found : Type 0
Found = (n : ℕ) (before : ℕ → ℕ → Bool) (order : List ℕ) (j : ℕ) → j + 1 < length order → IsLinearExtension n (Told before) order → IsLinearExtension n (Told before) (exchanged j order) → AreNeighbours n before order (exchanged j order)

-- neighbours differ by an exchange at some place
abbrev pub Placed : Type 0
Placed = (n : ℕ) (before : ℕ → ℕ → Bool) (order other : List ℕ) → AreNeighbours n before order other → (j : ℕ) × (j + 1 < length order) × (exchanged j order ≡ other)

-- an exchange leaves as many nodes
pub exchanged_long : (j : ℕ) (order : List ℕ) → length (exchanged j order) ≡ length order
exchanged_long j [] = refl
exchanged_long j (a ∷ []) = refl
exchanged_long zero (a ∷ b ∷ order) = refl
exchanged_long (suc j) (a ∷ b ∷ order) = ap suc (exchanged_long j (b ∷ order))

-- orders that end apart are different neighbours
pub goal_is_witness : Exactly → Found → (programs : List Program) (order : Relation) (d : Domain) → IsStrictOrder order → length programs ≡ order.count
    → (j : ℕ) (left : List ℕ) (t : Tree) → length left ≡ order.count → IsTreeOver d t → EndApart programs order j left (exchanged j left) t
    → AreDifferentNeighbours programs (Comes order) d t left (exchanged j left)
goal_is_witness exactly found programs order d strict same j left t long over g =
    let n = order.count in
    let is = strict_is order strict in
    let first = (exactly n (comes order) left is long).0 g.allowed.first in
    let second = (exactly n (comes order) (exchanged j left) is (exchanged_long j left ∙ long)).0 g.allowed.second in
    let near = found n (comes order) left j (let placed = g.allowed.placed in omega (arith, placed, long)) first second in
    record {
      over = over.is_over;
      exchange = near.exchange;
      counterexample = record {
        is_tree = over.is_tree;
        left_allowed = subst (λ m. IsLinearExtension m (Comes order) left) (sym same) first;
        right_allowed = subst (λ m. IsLinearExtension m (Comes order) (exchanged j left)) (sym same) second;
        differ = g.differ;
      };
    }

-- different neighbours are told by inputs under which they end apart
pub witness_is_goal : Exactly → Long → Placed → (programs : List Program) (order : Relation) (d : Domain) (gates : List Gate) (a : Asking) → IsStrictOrder order → length programs ≡ order.count → IsAsking gates d order.count a
    → (t : Tree) (o p : List ℕ) → AreDifferentNeighbours programs (Comes order) d t o p
    → (v : Valuation) × TellsTree d gates a.cells (EndApart programs order (node gates v a.place) (nodes gates v a.codes) (exchanged (node gates v a.place) (nodes gates v a.codes))) v
witness_is_goal exactly lng placed programs order d gates a strict same asks t o p w =
    let n = order.count in
    let is = strict_is order strict in
    let first = subst (λ m. IsLinearExtension m (Comes order) o) same w.counterexample.left_allowed in
    let second = subst (λ m. IsLinearExtension m (Comes order) p) same w.counterexample.right_allowed in
    let long = lng n (comes order) o first in
    let at = placed n (comes order) o p record { first = first; second = second; exchange = w.exchange } in
    let j = at.0 in
    let over : IsTreeOver d t = record { is_tree = w.counterexample.is_tree; is_over = w.over } in
    let told = asks.every t over o long first.below j (omega (arith, at.1, long)) in
    let v = told.0 in
    let left : nodes gates v a.codes ≡ o = told.2 in
    let place : node gates v a.place ≡ j = told.3 in
    let right : exchanged (node gates v a.place) (nodes gates v a.codes) ≡ p = (λ i. exchanged (place i) (left i)) ∙ at.2 in (
      v,
      record {
        tree = t;
        over = over;
        stands = told.1;
        held = record {
          allowed = record {
            first = ap (is_in_order (comes order) n) left ∙ (exactly n (comes order) o is long).1 first;
            second = ap (is_in_order (comes order) n) right ∙ (exactly n (comes order) p is (lng n (comes order) p second)).1 second;
            placed = omega (arith, at.1, long, place);
          };
          differ = λ e. w.counterexample.differ (ap (λ x. outcome programs x t) (sym left) ∙ e ∙ ap (λ x. outcome programs x t) right);
        };
      },
    )

-- ---- there is one first extension

-- there is one least node that may come next
least_one : (n : ℕ) (before : ℕ → ℕ → Type 0) (taken : List ℕ) (j k : ℕ) → IsLeastReady n before taken j → IsLeastReady n before taken k → j ≡ k
least_one n before taken j k a b = let low = a.least k b.ready in let high = b.least j a.ready in omega (arith, low, high)

-- two orders of the same length that always take the least are the same
pub least_same : (n : ℕ) (before : ℕ → ℕ → Type 0) (taken a b : List ℕ) → length a ≡ length b → TakesLeast n before taken a → TakesLeast n before taken b → a ≡ b
least_same n before taken [] [] long p q = refl
least_same n before taken [] (k ∷ b) long p q = absurd (omega (arith, long))
least_same n before taken (j ∷ a) [] long p q = absurd (omega (arith, long))
least_same n before taken (j ∷ a) (k ∷ b) long p q =
    let same = least_one n before taken j k p.0 q.0 in
    let rest = subst (λ i. TakesLeast n before (taken ++ i ∷ []) b) (sym same) q.1 in
    λ t. same t ∷ least_same n before (taken ++ j ∷ []) a b (omega (arith, long)) p.1 rest t

-- there is one first extension
pub first_same : Long → (order : Relation) (a b : List ℕ) → IsFirstExtension order a → IsFirstExtension order b → a ≡ b
first_same long order a b p q = least_same order.count (Comes order) [] a b (long order.count (comes order) a p.allowed ∙ sym (long order.count (comes order) b q.allowed)) p.least q.least
