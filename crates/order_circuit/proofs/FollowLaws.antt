-- A node that may come next, told by what may stand at a place.
use Rattle.std.proofs.Common.{◌≡◌, ℕ, zero, suc, ◌<◌, ◌≤◌, ◌==◌, Bool, true, false, cond, List, [], ◌∷◌, refl, ap, ◌∙◌, arith, eqb-true, nat_lt, ltb-true}
use Rattle.std.proofs.lemmas.Bool.{eqb-false, ltb-false}
use Rattle.std.specs.Prelude.{not, ◌&&◌, ◌||◌}
use Rattle.order_places.specs.Places.{all_taken, is_ready, with_taken, may_follow}
use Rattle.order_circuit.specs.Codes.{all_stand}

module _ (before : ℕ → ℕ → Bool) (n : ℕ) where
  -- what is asked of a node that stands at the place
  abbrev asked : (ℕ → Bool) → ℕ → Bool
  asked taken i = not (taken i) && all_taken before taken i n

  -- numbers that differ aren't told to be the same
  other_is : (i m : ℕ) → (i ≡ m → ⊥) → (i == m) ≡ false
  other_is i m h = elim (i == m) as (λ b. (i == m) ≡ b → b ≡ false) [ true ↦ λ k. absurd (h (eqb-true i m k)) | false ↦ λ k. refl ] refl

  -- a conjunction with true is its other side
  and_true : (b : Bool) → (b && true) ≡ b
  and_true true = refl
  and_true false = refl

  -- nothing is asked of a node that isn't one of the first k
  stand_above : (taken : ℕ → Bool) (m k : ℕ) → k ≤ m → all_stand before n taken m k ≡ true
  stand_above taken m zero h = refl
  stand_above taken m (suc k) h = λ i. stand_above taken m k (omega (arith, h)) i && cond (other_is k m (λ e. absurd (omega (arith, h, e))) i) (asked taken k) true

  -- what is asked of a node is asked where it is one of the first k
  stand_below : (taken : ℕ → Bool) (m k : ℕ) → m < k → all_stand before n taken m k ≡ asked taken m
  stand_below taken m zero h = absurd (omega (arith, h))
  stand_below taken m (suc k) h = elim (k == m) as (λ b. (k == m) ≡ b → (all_stand before n taken m k && cond b (asked taken k) true) ≡ asked taken m) [
    | true ↦ λ e. let same = eqb-true k m e in ap (λ b. b && asked taken k) (stand_above taken m k (omega (arith, same))) ∙ ap (asked taken) same
    | false ↦ λ e. let apart = eqb-false k m e in and_true (all_stand before n taken m k) ∙ stand_below taken m k (below apart)
  ] refl
    where
      below : (k ≡ m → ⊥) → m < k
      below f = elim (nat_lt m k) as (λ b. nat_lt m k ≡ b → m < k) [
        | true ↦ λ l. ltb-true m k l
        | false ↦ λ l. let past = ltb-false m k l in absurd (f (omega (arith, h, past)))
      ] refl

  -- a node may come next by what is asked of all exactly where it may
  pub ready_is : (taken : ℕ → Bool) (m : ℕ) → (nat_lt m n && all_stand before n taken m n) ≡ is_ready before n taken m
  ready_is taken m = elim (nat_lt m n) as (λ b. nat_lt m n ≡ b → (b && all_stand before n taken m n) ≡ (b && asked taken m)) [
    | true ↦ λ l. stand_below taken m n (ltb-true m n l)
    | false ↦ λ l. refl
  ] refl

  -- ---- nodes from n on don't matter

  -- what comes before a node is taken alike where the same nodes below n are taken
  taken_same : (s t : ℕ → Bool) (i k : ℕ) → k ≤ n → ((j : ℕ) → j < n → s j ≡ t j) → all_taken before s i k ≡ all_taken before t i k
  taken_same s t i zero h e = refl
  taken_same s t i (suc k) h e = λ x. taken_same s t i k (omega (arith, h)) e x && (not (before k i) || e k (omega (arith, h)) x)

  -- and the node may come next alike
  ready_same : (s t : ℕ → Bool) (i : ℕ) → ((j : ℕ) → j < n → s j ≡ t j) → is_ready before n s i ≡ is_ready before n t i
  ready_same s t i e = elim (nat_lt i n) as (λ b. nat_lt i n ≡ b → (b && (not (s i) && all_taken before s i n)) ≡ (b && (not (t i) && all_taken before t i n))) [
    | true ↦ λ l. λ x. not (e i (ltb-true i n l) x) && taken_same s t i n (omega arith) e x
    | false ↦ λ l. refl
  ] refl

  -- and so may an order
  pub follow_same : (s t : ℕ → Bool) (order : List ℕ) → ((j : ℕ) → j < n → s j ≡ t j) → may_follow before n s order ≡ may_follow before n t order
  follow_same s t [] e = refl
  follow_same s t (i ∷ order) e = λ x. ready_same s t i e x && follow_same (with_taken s i) (with_taken t i) order (λ j h. ap (λ b. b || (j == i)) (e j h)) x
