-- Taking the least node that may come next, until none is left.
use Rattle.std.proofs.Common.{◌≡◌, ◌≢◌, ◌⊎◌, inl, inr, ⊎_elim, ℕ, zero, suc, true, false, cond, ◌==◌, ◌+◌, ◌<◌, ◌≤◌, List, [], ◌∷◌, ◌++◌, refl, sym, ap, ◌∙◌, subst, arith}
use Rattle.std.specs.Prelude.{if◌then◌else◌}
use Rattle.std.proofs.lemmas.Bool.{cases_lt, cases_eq}
use Rattle.fs_semantics.specs.Orders.{times, NoneAhead}
use Rattle.fs_semantics.proofs.Counts.{times_append, times_itself, times_other, all_from, none_ahead_push}
use Rattle.orders.specs.Relation.{Relation, comes, Comes, IsStrictOrder}
use Rattle.orders.specs.Extensions.{IsReady, IsLeastReady, TakesLeast}
use Rattle.order_extensions.specs.FirstExtensions.{HasFirstExtension}
use Rattle.orders.proofs.Taking.{takes_push}

-- how many numbers below n don't stand in the list
abbrev untaken : ℕ → List ℕ → ℕ
untaken zero list = 0
untaken (suc n) list = (if times n list == 0 then 1 else 0) + untaken n list

-- a number put last stands there once more
itself_last : (x : ℕ) (list : List ℕ) → times x (list ++ x ∷ []) ≡ times x list + 1
itself_last x list = omega (arith, times_append x list (x ∷ []), times_itself x [])

-- and no other does
other_last : (k x : ℕ) (list : List ℕ) → k ≢ x → times k (list ++ x ∷ []) ≡ times k list
other_last k x list ne = omega (arith, times_append k list (x ∷ []), times_other k x [] ne)

-- what stands in a list stands in a longer one
still_there : (k x : ℕ) (list : List ℕ) → times k list ≤ times k (list ++ x ∷ [])
still_there k x list = omega (arith, times_append k list (x ∷ []))

-- a number past the last counts for nothing
untaken_past : (n x : ℕ) (list : List ℕ) → n ≤ x → untaken n (list ++ x ∷ []) ≡ untaken n list
untaken_past zero x list l = refl
untaken_past (suc n) x list l =
    ap (λ t. cond (t == 0) 1 0 + untaken n (list ++ x ∷ [])) (other_last n x list (λ e. omega arith))
    ∙ ap (λ v. cond (times n list == 0) 1 0 + v) (untaken_past n x list (omega arith))

-- to take a number leaves one less
untaken_less : (n x : ℕ) (list : List ℕ) → x < n → times x list ≡ 0 → untaken n list ≡ untaken n (list ++ x ∷ []) + 1
untaken_less zero x list l e = absurd (omega arith)
untaken_less (suc n) x list l e =
    ⊎_elim
    (λ m. let rest = untaken_less n x list m e in
    let same : ◌≡◌ {A = ℕ} (cond (times n (list ++ x ∷ []) == 0) 1 0) (cond (times n list == 0) 1 0) = ap (λ t. cond (t == 0) 1 0) (other_last n x list (λ d. omega arith)) in
    omega arith)
    (λ m. let here : x ≡ n = omega arith in
    let rest = untaken_past n x list (omega arith) in
    let was : ◌≡◌ {A = ℕ} (cond (times n list == 0) 1 0) 1 = ap (λ t. cond (t == 0) 1 0) (subst (λ v. times v list ≡ 0) here e) in
    let is : ◌≡◌ {A = ℕ} (cond (times n (list ++ x ∷ []) == 0) 1 0) 0 =
    ap (λ t. cond (t == 0) 1 0) (subst (λ v. times v (list ++ x ∷ []) ≡ 1) here (omega (arith, itself_last x list, e))) in
    omega arith) (cases_lt x n)

-- what is said of all below n and of n is said of all below n and one more
up_to : (P : ℕ → Type 0) (n : ℕ) → ((k : ℕ) → k < n → P k) → P n → (k : ℕ) → k < suc n → P k
up_to P n h p k l = ⊎_elim (λ m. h k m) (λ m. subst P (let e : n ≡ k = omega arith in e) p) (cases_lt k n)

module _ (order : Relation) (ordered : IsStrictOrder order) where
  -- nodes that were taken, at each step the least that might come next
  record IsTaking (list : List ℕ) : Type 0 where
    once : (k : ℕ) → times k list ≤ 1
    below : (k : ℕ) → 1 ≤ times k list → k < order.count
    closed : (a b : ℕ) → 1 ≤ times b list → Comes order a b → 1 ≤ times a list
    kept : NoneAhead (Comes order) list
    least : TakesLeast order.count (Comes order) [] list

  module _ (list : List ℕ) where
    -- node k may come next
    abbrev Ready : ℕ → Type 0
    Ready k = IsReady order.count (Comes order) list k

    -- of the nodes below m all are taken that come before node k
    abbrev Clear : ℕ → ℕ → Type 0
    Clear m k = (a : ℕ) → a < m → Comes order a k → 1 ≤ times a list

    -- they are, or one isn't
    clear_or_not : (k m : ℕ) → Clear m k ⊎ ((a : ℕ) × Comes order a k × (times a list ≡ 0))
    clear_or_not k zero = inl (λ a l c. absurd (omega arith))
    clear_or_not k (suc m) = elim (clear_or_not k m) [
      | inr r ↦ inr r
      | inl h ↦ elim (comes order m k) as (λ t. comes order m k ≡ t → Clear (suc m) k ⊎ ((a : ℕ) × Comes order a k × (times a list ≡ 0))) [
        | true ↦ λ t. ⊎_elim (λ e. inr (m, t, e)) (λ ne. inl (up_to (λ a. Comes order a k → 1 ≤ times a list) m h (λ c. omega (arith, ne)))) (cases_eq (times m list) 0)
        | false ↦ λ t. inl (up_to (λ a. Comes order a k → 1 ≤ times a list) m h (λ c. cc))
      ] refl
    ]

    -- a node may come next, or may not
    ready_or_not : (k : ℕ) → Ready k ⊎ (Ready k → ⊥)
    ready_or_not k =
        ⊎_elim
        (λ l. ⊎_elim
        (λ e. ⊎_elim
        (λ h. inl (record { below = l; fresh = e; free = λ a c. h a (ordered.within a k c).0 c }))
        (λ w. inr (λ r. let some = r.free w.0 w.1 in omega (arith, some, w.2))) (clear_or_not k order.count))
        (λ ne. inr (λ r. ne r.fresh)) (cases_eq (times k list) 0))
        (λ l. inr (λ r. let m = r.below in omega (arith, l, m))) (cases_lt k order.count)

    -- none below m may come next, or one is the least of all that may
    least_or_none : (m : ℕ) → ((j : ℕ) → j < m → Ready j → ⊥) ⊎ ((k : ℕ) × IsLeastReady order.count (Comes order) list k)
    least_or_none zero = inl (λ j l r. absurd (omega arith))
    least_or_none (suc m) = elim (least_or_none m) [
      | inr r ↦ inr r
      | inl h ↦ ⊎_elim
          (λ r. inr (m, record { ready = r; least = λ j i. ⊎_elim (λ l. absurd (h j l i)) (λ l. l) (cases_lt j m) }))
          (λ n. inl (up_to (λ j. Ready j → ⊥) m h n)) (ready_or_not m)
    ]

    -- where a node isn't taken, there is one such that waits for none below m
    minimal : (m k : ℕ) → k < order.count → times k list ≡ 0 → (z : ℕ) × (z < order.count) × (times z list ≡ 0) × Clear m z
    minimal zero k l e = (k, l, e, λ a i c. absurd (omega arith))
    minimal (suc m) k l e = next m (minimal m k l e)
      where
        next : (m : ℕ) → (z : ℕ) × (z < order.count) × (times z list ≡ 0) × Clear m z → (z : ℕ) × (z < order.count) × (times z list ≡ 0) × Clear (suc m) z
        next m r = elim (comes order m r.0) as (λ t. comes order m r.0 ≡ t → (z : ℕ) × (z < order.count) × (times z list ≡ 0) × Clear (suc m) z) [
          | true ↦ λ t. ⊎_elim
              (λ e.
              let clear = up_to (λ a. Comes order a m → 1 ≤ times a list) m (λ a i c. r.3 a i (ordered.transitive a m r.0 c t)) (λ c. absurd (ordered.never_itself m c)) in
              (m, (ordered.within m r.0 t).0, e, clear))
              (λ ne. (r.0, r.1, r.2, up_to (λ a. Comes order a r.0 → 1 ≤ times a list) m r.3 (λ c. omega (arith, ne)))) (cases_eq (times m list) 0)
          | false ↦ λ t. (r.0, r.1, r.2, up_to (λ a. Comes order a r.0 → 1 ≤ times a list) m r.3 (λ c. cc))
        ] refl

    module _ (h : IsTaking list) where
      module _ (none : (j : ℕ) → j < order.count → Ready j → ⊥) where
        -- where no node may come next, all are taken
        all_taken : (k : ℕ) → k < order.count → 1 ≤ times k list
        all_taken k l =
            ⊎_elim
            (λ e. let z = minimal order.count k l e in absurd (none z.0 z.1 (record { below = z.1; fresh = z.2; free = λ a c. z.3 a (ordered.within a z.0 c).0 c })))
            (λ ne. omega (arith, ne)) (cases_eq (times k list) 0)

        -- so the list is the first extension
        taken_all : HasFirstExtension order
        taken_all = record {
          first = list;
          allowed = record { below = all_from (λ k. k < order.count) list h.below; once = λ k l. omega (arith, h.once k, all_taken k l); kept = h.kept };
          least = h.least;
        }

      -- with the least node taken that may come next, the list goes on
      taking_more : (x : ℕ) → IsLeastReady order.count (Comes order) list x → IsTaking (list ++ x ∷ [])
      taking_more x r = record {
        once = λ k. ⊎_elim
            (λ e. subst (λ v. times v (list ++ x ∷ []) ≤ 1) (sym e) (omega (arith, itself_last x list, r.ready.fresh)))
            (λ ne. omega (arith, other_last k x list ne, h.once k)) (cases_eq k x);
        below = λ k m. ⊎_elim (λ e. subst (λ v. v < order.count) (sym e) r.ready.below) (λ ne. h.below k (omega (arith, other_last k x list ne, m))) (cases_eq k x);
        closed = λ a b m c.
            let there : 1 ≤ times a list =
            ⊎_elim (λ e. r.ready.free a (subst (λ v. Comes order a v) e c)) (λ ne. h.closed a b (omega (arith, other_last b x list ne, m)) c) (cases_eq b x) in
            omega (arith, there, still_there a x list);
        kept = none_ahead_push (Comes order) list x h.kept (all_from (λ b. Comes order x b → ⊥) list (λ b m c. let there = h.closed x b m c in omega (arith, there, r.ready.fresh)));
        least = takes_push order.count (Comes order) [] list x h.least r;
      }

  -- from what is taken the least are taken, as long as one is left
  taken_on : (m : ℕ) (list : List ℕ) → IsTaking list → untaken order.count list ≡ m → HasFirstExtension order
  taken_on zero list h e =
      ⊎_elim (taken_all list h) (λ x. absurd (omega (arith, e, untaken_less order.count x.0 list x.1.ready.below x.1.ready.fresh))) (least_or_none list order.count)
  taken_on (suc m) list h e =
      ⊎_elim (taken_all list h)
      (λ x. taken_on m (list ++ x.0 ∷ []) (taking_more list h x.0 x.1) (omega (arith, e, untaken_less order.count x.0 list x.1.ready.below x.1.ready.fresh))) (least_or_none list order.count)

  -- taking the least from the start on gives the first extension
  pub first_extension : HasFirstExtension order
  first_extension = taken_on (untaken order.count []) [] (record { once = λ k. omega arith; below = λ k m. absurd (omega arith); closed = λ a b m c. absurd (omega arith); kept = tt; least = tt }) refl
