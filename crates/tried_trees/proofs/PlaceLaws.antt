-- Orders in which two free nodes were brought together are allowed.
use Rattle.std.proofs.Common.{◌≡◌, ℕ, ◌+◌, ◌<◌, ◌==◌, Bool, true, false, not, cond, ◌&&◌, ◌||◌, inl, inr, ⊎_elim, true≢false, List, [], ◌∷◌, ◌++◌, refl, sym, ap, ◌∙◌, subst, arith, eqb-true}
use Rattle.std.specs.Prelude.{◌↔◌, ◌⊎◌, IsTrue}
use Rattle.std.specs.List.{AllByRecursion}
use Rattle.fs_semantics.proofs.Keys.{same_bool}
use Rattle.fs_semantics.specs.Orders.{times, NoneAhead, IsLinearExtension, IsFree, IsExchange}
use Rattle.fs_semantics.proofs.Counts.{times_append, all_append}
use Rattle.fs_semantics.proofs.Exchanges.{exchanged}
use Rattle.orders.specs.Relation.{Relation, comes, Comes, IsStrictOrder}
use Rattle.tried_trees.specs.declared.placing.Place.{Place}
use Rattle.tried_trees.specs.declared.placing.Place.TheVariants.{Early, Late}
use Rattle.tried_trees.specs.Placing.{near, aside, those, OnlyNeeded, IsPlaced}
use Rattle.std.proofs.lemmas.Bool.{not-true}
use Rattle.fs_semantics.proofs.Puts.{and_right}

-- what is true exactly where one node comes before another is what the order tells of them
pub told_by : (order : Relation) (a b : ℕ) (r : Bool) → IsTrue r ↔ Comes order a b → r ≡ comes order a b
told_by order a b r h = same_bool r (comes order a b) h.0 h.1

-- ---- those that pass

-- how often a number that passes stands in a list with one item more, if it passes just where the item does
counted : (t u s : Bool) (n m : ℕ) → n ≡ cond t (cond s 1 0) 0 → (s ≡ true → t ≡ u) → n + cond u m 0 ≡ cond u (cond s 1 0 + m) 0
counted true true s n m e same = omega (arith, e)
counted true false true n m e same = absurd (true≢false (same refl))
counted true false false n m e same = omega (arith, e)
counted false true true n m e same = absurd (true≢false (sym (same refl)))
counted false true false n m e same = omega (arith, e)
counted false false s n m e same = omega (arith, e)

-- a number stands once in what passes of one item, if it is that item and passes, else not at all
one_counted : (t : Bool) (k x : ℕ) → times k (cond t (x ∷ []) []) ≡ cond t (cond (x == k) 1 0) 0
one_counted true k x = omega arith
one_counted false k x = refl

-- a number stands nowhere in an empty list, whether it passes or not
none_counted : (k : ℕ) (t : Bool) → times k [] ≡ cond t (times k []) 0
none_counted k true = refl
none_counted k false = refl

-- a number that passes stands among those that pass as often as before, any other not at all
pub those_times : (test : ℕ → Bool) (k : ℕ) (xs : List ℕ) → times k (those test xs) ≡ cond (test k) (times k xs) 0
those_times test k [] = none_counted k (test k)
those_times test k (x ∷ xs) =
    times_append k (cond (test x) (x ∷ []) []) (those test xs) ∙ ap (λ n. times k (cond (test x) (x ∷ []) []) + n) (those_times test k xs)
    ∙ counted (test x) (test k) (x == k) _ (times k xs) (one_counted (test x) k x) (λ e. ap test (eqb-true x k e))

-- what follows for one that passes and has a property holds of all that pass
pub those_all : (P Q : ℕ → Type 0) (test : ℕ → Bool) → ((k : ℕ) → test k ≡ true → P k → Q k) → (xs : List ℕ) → AllByRecursion P xs → AllByRecursion Q (those test xs)
those_all P Q test f [] h = tt
those_all P Q test f (x ∷ xs) h = elim (test x) as (λ b. test x ≡ b → AllByRecursion Q (cond b (x ∷ []) [] ++ those test xs)) [
  | true ↦ λ e. (f x e h.0, those_all P Q test f xs h.1)
  | false ↦ λ e. those_all P Q test f xs h.1
] refl

-- where none comes before one ahead of it, none does among those that pass
pub those_kept : (before : ℕ → ℕ → Type 0) (test : ℕ → Bool) (xs : List ℕ) → NoneAhead before xs → NoneAhead before (those test xs)
those_kept before test [] h = tt
those_kept before test (x ∷ xs) h = elim (test x) as (λ b. NoneAhead before (cond b (x ∷ []) [] ++ those test xs)) [
  | true ↦ let P : ℕ → Type 0 = λ a. before a x → ⊥ in (those_all P P test (λ k e i. i) xs h.0, those_kept before test xs h.1)
  | false ↦ those_kept before test xs h.1
]

-- so it is in two such lists, one behind the other, where none of the second comes before one of the first
none_ahead_append : (before : ℕ → ℕ → Type 0) (xs ys : List ℕ) → NoneAhead before xs → NoneAhead before ys → AllByRecursion (λ x. AllByRecursion (λ y. before y x → ⊥) ys) xs
    → NoneAhead before (xs ++ ys)
none_ahead_append before [] ys h g all = g
none_ahead_append before (x ∷ xs) ys h g all = (all_append (λ a. before a x → ⊥) xs ys h.0 all.0, none_ahead_append before xs ys h.1 g all.1)

-- ---- two nodes between those that may stand ahead of them and those that may stand behind

module _ (n : ℕ) (before : ℕ → ℕ → Type 0) (f g : ℕ → Bool) (a b : ℕ) (list : List ℕ) (is : IsLinearExtension n before list) (a_below : a < n) (b_below : b < n) where
  -- those ahead of the two, the two, and those behind
  abbrev whole : List ℕ
  whole = those f list ++ a ∷ b ∷ those g list

  -- where each number is just one of these, each stands once
  once : ((k : ℕ) → cond (f k) 1 0 + (cond (a == k) 1 0 + (cond (b == k) 1 0 + cond (g k) 1 0)) ≡ 1) → (k : ℕ) → k < n → times k whole ≡ 1
  once one k h =
      let is_one = is.once k h in
      omega (arith, times_append k (those f list) (a ∷ b ∷ those g list), those_times f k list ∙ ap (λ m. cond (f k) m 0) is_one, those_times g k list ∙ ap (λ m. cond (g k) m 0) is_one, one k)

  -- where none comes before one ahead of it, too, this is an allowed order
  pub allowed : ((k : ℕ) → cond (f k) 1 0 + (cond (a == k) 1 0 + (cond (b == k) 1 0 + cond (g k) 1 0)) ≡ 1)
      → ((k : ℕ) → f k ≡ true → before a k → ⊥) → ((k : ℕ) → f k ≡ true → before b k → ⊥) → ((k l : ℕ) → f k ≡ true → g l ≡ true → before l k → ⊥)
      → ((l : ℕ) → g l ≡ true → before l a → ⊥) → ((l : ℕ) → g l ≡ true → before l b → ⊥) → (before b a → ⊥)
      → IsLinearExtension n before whole
  allowed one fa fb fg ga gb ba =
      let P : ℕ → Type 0 = λ k. k < n in
      let below_all = λ (test : ℕ → Bool). those_all P P test (λ k e i. i) list is.below in
      let behind = λ (k : ℕ) (free : (l : ℕ) → g l ≡ true → before l k → ⊥). those_all P (λ l. before l k → ⊥) g (λ l e i. free l e) list is.below in
      record {
        below = all_append P (those f list) (a ∷ b ∷ those g list) (below_all f) (a_below, (b_below, below_all g));
        once = once one;
        kept = none_ahead_append before (those f list) (a ∷ b ∷ those g list) (those_kept before f list is.kept)
            ((ba, behind a ga), (behind b gb, those_kept before g list is.kept))
            (those_all P (λ x. AllByRecursion (λ y. before y x → ⊥) (a ∷ b ∷ those g list)) f (λ k e i. (fa k e, (fb k e, behind k (λ l d. fg k l e d)))) list is.below);
      }

-- ---- the two places

-- where one of two holds, it is the first or the second
or_true : (x y : Bool) → (x || y) ≡ true → IsTrue x ⊎ IsTrue y
or_true true y e = inl refl
or_true false y e = inr e

-- where neither of two holds, the first doesn't, and the second doesn't
or_false : (x y : Bool) → (x || y) ≡ false → (IsTrue x → ⊥) × (IsTrue y → ⊥)
or_false true y e = absurd (true≢false e)
or_false false true e = absurd (true≢false e)
or_false false false e = (λ h. true≢false (sym h), λ h. true≢false (sym h))

-- where at most one of three holds, just one of these and of their denial does
one_of : (x y m : Bool) → (x ≡ true → y ≡ false) → (x ≡ true → m ≡ false) → (y ≡ true → m ≡ false)
    → cond m 1 0 + (cond x 1 0 + (cond y 1 0 + cond (not x && not y && not m) 1 0)) ≡ 1
one_of true true m xy xm ym = absurd (true≢false (xy refl))
one_of true false true xy xm ym = absurd (true≢false (xm refl))
one_of true false false xy xm ym = refl
one_of false true true xy xm ym = absurd (true≢false (ym refl))
one_of false true false xy xm ym = refl
one_of false false true xy xm ym = refl
one_of false false false xy xm ym = refl

-- what doesn't hold is false
not_told : (x : Bool) → (IsTrue x → ⊥) → x ≡ false
not_told true h = absurd (h refl)
not_told false h = refl

-- where the first of two doesn't hold, and the second doesn't, neither does
or_neither : (x y : Bool) → (IsTrue x → ⊥) → (IsTrue y → ⊥) → (x || y) ≡ false
or_neither true y h g = absurd (h refl)
or_neither false y h g = not_told y g

module _ (order : Relation) (strict : IsStrictOrder order) (a b : ℕ) (free : IsFree (Comes order) a b) where
  -- no number is both of the two
  not_both : (k : ℕ) → (a == k) ≡ true → (b == k) ≡ false
  not_both k e = not_told (b == k) (λ h. free.differ (eqb-true a k e ∙ sym (eqb-true b k h)))

  -- neither of the two is near them
  early_a : near Early order a b a ≡ false
  early_a = or_neither (comes order a a) (comes order a b) (strict.never_itself a) free.not_before

  -- the second of the two comes before neither
  early_b : near Early order a b b ≡ false
  early_b = or_neither (comes order b a) (comes order b b) free.not_after (strict.never_itself b)

  -- the first of the two comes after neither
  late_a : near Late order a b a ≡ false
  late_a = or_neither (comes order a a) (comes order b a) (strict.never_itself a) free.not_after

  -- nor does the second
  late_b : near Late order a b b ≡ false
  late_b = or_neither (comes order a b) (comes order b b) free.not_before (strict.never_itself b)

  -- what is aside of an early place comes before neither of the two
  far_early : (k : ℕ) → aside Early order a b k ≡ true → (Comes order k a → ⊥) × (Comes order k b → ⊥)
  far_early k e = or_false (comes order k a) (comes order k b) (not-true (near Early order a b k) (and_right (not (a == k) && not (b == k)) (not (near Early order a b k)) e))

  -- what is aside of a late place comes after neither of the two
  far_late : (k : ℕ) → aside Late order a b k ≡ true → (Comes order a k → ⊥) × (Comes order b k → ⊥)
  far_late k e = or_false (comes order a k) (comes order b k) (not-true (near Late order a b k) (and_right (not (a == k) && not (b == k)) (not (near Late order a b k)) e))

  -- each number is just one of those that come before, of the two, and of those aside
  one_early : (k : ℕ) → cond (near Early order a b k) 1 0 + (cond (a == k) 1 0 + (cond (b == k) 1 0 + cond (aside Early order a b k) 1 0)) ≡ 1
  one_early k = one_of (a == k) (b == k) (near Early order a b k) (not_both k)
      (λ e. ap (near Early order a b) (sym (eqb-true a k e)) ∙ early_a) (λ e. ap (near Early order a b) (sym (eqb-true b k e)) ∙ early_b)

  -- each number is just one of those aside, of the two, and of those that come after
  one_late : (k : ℕ) → cond (aside Late order a b k) 1 0 + (cond (a == k) 1 0 + (cond (b == k) 1 0 + cond (near Late order a b k) 1 0)) ≡ 1
  one_late k =
      let one = one_of (a == k) (b == k) (near Late order a b k) (not_both k)
      (λ e. ap (near Late order a b) (sym (eqb-true a k e)) ∙ late_a) (λ e. ap (near Late order a b) (sym (eqb-true b k e)) ∙ late_b) in
      omega (arith, one)

  -- what is near an early place comes before one of the two
  near_early : (k : ℕ) → near Early order a b k ≡ true → Comes order k a ⊎ Comes order k b
  near_early k e = or_true (comes order k a) (comes order k b) e

  -- what is near a late place comes after one of the two
  near_late : (k : ℕ) → near Late order a b k ≡ true → Comes order a k ⊎ Comes order b k
  near_late k e = or_true (comes order a k) (comes order b k) e

  module _ (list : List ℕ) (is : IsLinearExtension order.count (Comes order) list) (a_below : a < order.count) (b_below : b < order.count) where
    -- those that come before, the two, and those aside are an allowed order
    pub early : IsLinearExtension order.count (Comes order) (those (near Early order a b) list ++ a ∷ b ∷ those (aside Early order a b) list)
    early = allowed order.count (Comes order) (near Early order a b) (aside Early order a b) a b list is a_below b_below one_early
        (λ k e h. ⊎_elim (λ i. strict.never_itself a (strict.transitive a k a h i)) (λ i. free.not_before (strict.transitive a k b h i)) (near_early k e))
        (λ k e h. ⊎_elim (λ i. free.not_after (strict.transitive b k a h i)) (λ i. strict.never_itself b (strict.transitive b k b h i)) (near_early k e))
        (λ k l e d h. ⊎_elim (λ i. (far_early l d).0 (strict.transitive l k a h i)) (λ i. (far_early l d).1 (strict.transitive l k b h i)) (near_early k e))
        (λ l d h. (far_early l d).0 h) (λ l d h. (far_early l d).1 h) free.not_after

    -- those aside, the two, and those that come after are an allowed order
    pub late : IsLinearExtension order.count (Comes order) (those (aside Late order a b) list ++ a ∷ b ∷ those (near Late order a b) list)
    late = allowed order.count (Comes order) (aside Late order a b) (near Late order a b) a b list is a_below b_below one_late
        (λ k e h. (far_late k e).0 h) (λ k e h. (far_late k e).1 h)
        (λ k l e d h. ⊎_elim (λ i. (far_late k e).0 (strict.transitive a l k i h)) (λ i. (far_late k e).1 (strict.transitive b l k i h)) (near_late l d))
        (λ l d h. ⊎_elim (λ i. strict.never_itself a (strict.transitive a l a i h)) (λ i. free.not_after (strict.transitive b l a i h)) (near_late l d))
        (λ l d h. ⊎_elim (λ i. free.not_before (strict.transitive a l b i h)) (λ i. strict.never_itself b (strict.transitive b l b i h)) (near_late l d))
        free.not_after

    -- so the two orders are as they should be
    orders : (place : Place) (left right front back : List ℕ) → left ≡ front ++ a ∷ b ∷ back → right ≡ front ++ b ∷ a ∷ back
        → IsLinearExtension order.count (Comes order) (front ++ a ∷ b ∷ back) → OnlyNeeded place order a b front back → IsPlaced place order a b left right
    orders place left right front back was is_right allowed only =
        let left_allowed = subst (IsLinearExtension order.count (Comes order)) (sym was) allowed in
        let exchange : IsExchange (Comes order) left right = record { front = front; left = a; right = b; back = back; was = was; is = is_right; free = free } in
        record {
          left_allowed = left_allowed;
          right_allowed = exchanged (Comes order) order.count left right exchange left_allowed;
          exchange = exchange;
          front = front;
          back = back;
          swap = record { was = was; is = is_right };
          only = only;
        }

    -- so placed, the two stand as early as the order allows, once in this order and once in the other
    pub placed_early : (left right xs ys : List ℕ) → left ≡ xs ++ a ∷ b ∷ ys → right ≡ xs ++ b ∷ a ∷ ys → xs ≡ those (near Early order a b) list → ys ≡ those (aside Early order a b) list
        → IsPlaced Early order a b left right
    placed_early left right xs ys was is_right e d =
        orders Early left right xs ys was is_right
        (subst (λ zs. IsLinearExtension order.count (Comes order) (zs ++ a ∷ b ∷ ys)) (sym e)
        (subst (λ zs. IsLinearExtension order.count (Comes order) (those (near Early order a b) list ++ a ∷ b ∷ zs)) (sym d) early))
        (subst (AllByRecursion (λ k. Comes order k a ⊎ Comes order k b)) (sym e) (those_all (λ k. k < order.count) (λ k. Comes order k a ⊎ Comes order k b) (near Early order a b) (λ k i h. near_early k i) list is.below))

    -- and so placed they stand as late as the order allows
    pub placed_late : (left right xs ys : List ℕ) → left ≡ xs ++ a ∷ b ∷ ys → right ≡ xs ++ b ∷ a ∷ ys → xs ≡ those (aside Late order a b) list → ys ≡ those (near Late order a b) list
        → IsPlaced Late order a b left right
    placed_late left right xs ys was is_right e d =
        orders Late left right xs ys was is_right
        (subst (λ zs. IsLinearExtension order.count (Comes order) (zs ++ a ∷ b ∷ ys)) (sym e)
        (subst (λ zs. IsLinearExtension order.count (Comes order) (those (aside Late order a b) list ++ a ∷ b ∷ zs)) (sym d) late))
        (subst (AllByRecursion (λ k. Comes order a k ⊎ Comes order b k)) (sym d) (those_all (λ k. k < order.count) (λ k. Comes order a k ⊎ Comes order b k) (near Late order a b) (λ k i h. near_late k i) list is.below))
