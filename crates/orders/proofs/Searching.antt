-- Steps of a search through a graph, depth first.
use Rattle.std.proofs.Common.{◌≡◌, ℕ, zero, suc, Bool, true, false, not, cond, ◌==◌, ◌+◌, ◌-◌, ◌<◌, ◌≤◌, ◌⊎◌, ⊎_elim, List, [], ◌∷◌, ◌++◌, length, get_or, set, refl, sym, ap, ◌∙◌, subst, arith, eq-eqb, eqb-true}
use Rattle.std.specs.Prelude.{◌&&◌, ◌||◌, slice_index}
use Rattle.std.proofs.lemmas.Bool.{cases_lt, cases_eq}
use Rattle.std.proofs.lemmas.List.{get_or-set_same, get_or-set_other, get_or_default}
use Rattle.orders.specs.Paths.{HasEdge, EndsBelow, Path, edge, and_on}
use Rattle.orders.specs.Search.{source, target, latest, AreLinked, total}
use Rattle.orders.proofs.Waits.{clash}
use Rattle.orders.proofs.Taking.{within_taken}

-- ---- chains of edges
-- the latest edge of a node is one of those that were looked at
pub latest_le : (edges : List (ℕ × ℕ)) (a i : ℕ) → latest edges a i ≤ i
latest_le edges a zero = omega arith
latest_le edges a (suc i) = elim (source edges i == a) as (λ b. cond b (suc i) (latest edges a i) ≤ suc i) [ true ↦ omega arith | false ↦ let e = latest_le edges a i in omega arith ]

-- the latest edge of a node begins at it, with one edge more
own_step : (edges : List (ℕ × ℕ)) (a i j : ℕ) → (latest edges a i ≡ suc j → source edges j ≡ a) → (b : Bool) → (source edges i == a) ≡ b → cond b (suc i) (latest edges a i) ≡ suc j → source edges j ≡ a
own_step edges a i j h true t f = let g : i ≡ j = omega arith in subst (λ (v : ℕ). source edges v ≡ a) g (eqb-true (source edges i) a t)
own_step edges a i j h false t f = h f

-- the latest edge of a node begins at it
pub latest_own : (edges : List (ℕ × ℕ)) (a i j : ℕ) → latest edges a i ≡ suc j → source edges j ≡ a
latest_own edges a zero j e = absurd (omega arith)
latest_own edges a (suc i) j e = own_step edges a i j (latest_own edges a i j) (source edges i == a) refl e

-- behind the latest edge of a node none begins there, with one edge more
none_step : (edges : List (ℕ × ℕ)) (a i k : ℕ) → (latest edges a i ≤ k → k < i → source edges k ≡ a → ⊥) → (b : Bool) → (source edges i == a) ≡ b → cond b (suc i) (latest edges a i) ≤ k → k < suc i → source edges k ≡ a → ⊥
none_step edges a i k h true t m l e = omega arith
none_step edges a i k h false t m l e =
    ⊎_elim (λ n. h m n e)
    (λ n. let same : k ≡ i = omega arith in clash t (eq-eqb (source edges i) a (ap (source edges) (sym same) ∙ e))) (cases_lt k i)

-- behind the latest none begins at a
pub latest_none : (edges : List (ℕ × ℕ)) (a i k : ℕ) → latest edges a i ≤ k → k < i → source edges k ≡ a → ⊥
latest_none edges a zero k m l e = absurd (omega arith)
latest_none edges a (suc i) k m l e = none_step edges a i k (latest_none edges a i k) (source edges i == a) refl m l e

-- ---- edges by their number
-- an edge with a number leads from its beginning to its end
pub edge_at : (edges : List (ℕ × ℕ)) (k : ℕ) → k < length edges → HasEdge edges (source edges k) (target edges k)
edge_at edges k l = (k, l, get_or_default edges k (source edges k, target edges k) (0, 0) l)

-- an edge from a to b has a number
pub numbered : (edges : List (ℕ × ℕ)) (a b : ℕ) → HasEdge edges a b → (k : ℕ) × (k < length edges) × (source edges k ≡ a) × (target edges k ≡ b)
numbered edges a b h =
    let e : get_or edges h.0 (0, 0) ≡ (a, b) = get_or_default edges h.0 (0, 0) (a, b) h.1 ∙ h.2 in
    (h.0, h.1, ap (λ (p : ℕ × ℕ). p.0) e, ap (λ (p : ℕ × ℕ). p.1) e)

-- an edge begins at a node
pub source_within : (n : ℕ) (edges : List (ℕ × ℕ)) → EndsBelow n edges → (k : ℕ) → k < length edges → source edges k < n
source_within n edges ends k l = (ends k (0, 0) l).0

-- an edge ends at a node
pub target_within : (n : ℕ) (edges : List (ℕ × ℕ)) → EndsBelow n edges → (k : ℕ) → k < length edges → target edges k < n
target_within n edges ends k l = (ends k (0, 0) l).1

-- a path leads from a node to a node
pub path_within : (n : ℕ) (edges : List (ℕ × ℕ)) → EndsBelow n edges → {a b : ℕ} → Path edges a b → (a < n) × (b < n)
path_within n edges ends (edge {a} {b} h) =
    let k = numbered edges a b h in
    (subst (λ (v : ℕ). v < n) k.2 (source_within n edges ends k.0 k.1), subst (λ (v : ℕ). v < n) k.3 (target_within n edges ends k.0 k.1))
path_within n edges ends (and_on {a} {b} {c} h p) =
    let k = numbered edges a b h in
    (subst (λ (v : ℕ). v < n) k.2 (source_within n edges ends k.0 k.1), (path_within n edges ends p).1)

-- ---- marks, sums, links
-- a truth value counts for one at most
pub one_at_most : (t : Bool) → cond t 1 0 ≤ 1
one_at_most true = omega arith
one_at_most false = omega arith

-- what is in work was entered and isn't done
pub in_work_both : (e d : Bool) → 1 ≤ cond (e && not d) 1 0 → (e ≡ true) × (d ≡ false)
in_work_both true false h = (refl, refl)
in_work_both true true h = absurd (omega arith)
in_work_both false d h = absurd (omega arith)

-- what was entered and isn't done is in work once
pub in_work_one : (e d : Bool) → e ≡ true → d ≡ false → ◌≡◌ {A = ℕ} (cond (e && not d) 1 0) 1
in_work_one true false h k = refl
in_work_one true true h k = cc
in_work_one false d h k = cc

-- what is done isn't in work
pub done_none : (e d : Bool) → d ≡ true → ◌≡◌ {A = ℕ} (cond (e && not d) 1 0) 0
done_none true true h = refl
done_none false true h = refl
done_none e false h = cc

-- what wasn't entered isn't in work
pub unset_none : (e d : Bool) → e ≡ false → ◌≡◌ {A = ℕ} (cond (e && not d) 1 0) 0
unset_none false d h = refl
unset_none true d h = cc

-- a mark that is set stays set when one is set
pub set_keeps : (marks : List Bool) (j k : ℕ) → get_or marks k false ≡ true → get_or (set marks j true) k false ≡ true
set_keeps marks j k h =
    ⊎_elim (λ e. subst (λ (v : ℕ). get_or (set marks j true) v false ≡ true) (sym e) (get_or-set_same marks j true false (subst (λ (v : ℕ). v < length marks) e (within_taken marks k h))))
    (λ ne. get_or-set_other marks j k true false ne ∙ h) (cases_eq k j)

-- with one number replaced the sum changes by as much
pub total_set : (xs : List ℕ) (i y : ℕ) → i < length xs → total (set xs i y) + slice_index xs i ≡ total xs + y
total_set [] i y l = absurd (omega arith)
total_set (x ∷ xs) zero y l = omega arith
total_set (x ∷ xs) (suc i) y l = omega (arith, total_set xs i y (omega arith))

module _ (edges : List (ℕ × ℕ)) where
  -- the front of linked nodes is linked
  pub linked_front : (xs ys : List ℕ) → AreLinked edges (xs ++ ys) → AreLinked edges xs
  linked_front [] ys h = tt
  linked_front (x ∷ []) ys h = tt
  linked_front (x ∷ z ∷ xs) ys h = (h.0, linked_front (z ∷ xs) ys h.1)

  -- linked nodes with one more, to which an edge leads from the last, are linked
  pub linked_push : (xs : List ℕ) (node : ℕ) → AreLinked edges xs → (0 < length xs → HasEdge edges (slice_index xs (length xs - 1)) node) → AreLinked edges (xs ++ node ∷ [])
  linked_push [] node h e = tt
  linked_push (x ∷ []) node h e = (e (omega arith), tt)
  linked_push (x ∷ z ∷ xs) node h e =
      let last : suc (suc (length xs)) - 1 ≡ suc (suc (length xs) - 1) = omega arith in
      (h.0, linked_push (z ∷ xs) node h.1 (λ l. subst (λ (v : ℕ). HasEdge edges (slice_index (x ∷ z ∷ xs) v) node) last (e (omega arith))))
