-- Walks by exchanges: places, pairs that stand the other way round, and the end of a walk.
use Rattle.std.proofs.Common.{◌≡◌, ◌≢◌, ℕ, zero, suc, cond, ◌+◌, ◌-◌, ◌<◌, ◌≤◌, ⊎_elim, List, [], ◌∷◌, ◌++◌, length, get_or, set, take, drop, refl, sym, ap, ◌∙◌, subst, arith, add-one, eq-eqb, ne_eqb}
use Rattle.std.specs.Prelude.{slice_index, nat_lt, swap}
use Rattle.std.proofs.lemmas.Bool.{cases_lt, cases_eq, lt-ltb, le-ltb}
use Rattle.std.proofs.lemmas.List.{length-append, length-set, get_or-set_same, get_or-set_other, ext_get_or, take_more}
use Rattle.fs_semantics.specs.Orders.{times, NoneAhead, IsLinearExtension, IsFree, IsExchange}
use Rattle.orders.specs.Counting.{EachOnce}
use Rattle.orders.specs.Exchanges.{IsWalk, place, count_ahead, count_turned}
use Rattle.fs_semantics.proofs.Counts.{times_append, times_itself, times_other, times_found, all_at, none_ahead_at}
use Rattle.orders.proofs.Lists.{times_at}
use Rattle.fs_semantics.proofs.Commuting.{same_times}
use Rattle.fs_semantics.proofs.Exchanges.{exchanged as next_is_allowed}

-- ---- places
-- the first of an order stands at place 0
pub place_here : (k : ℕ) (order : List ℕ) → place k (k ∷ order) ≡ 0
place_here k order = ap (λ b. cond b 0 (suc (place k order))) (eq-eqb k k refl)

-- any other stands one place further than in the rest
pub place_on : (k i : ℕ) (order : List ℕ) → k ≢ i → place k (i ∷ order) ≡ suc (place k order)
place_on k i order ne = ap (λ b. cond b 0 (suc (place k order))) (ne_eqb i k (λ e. ne (sym e)))

-- a node of the order stands at a place within it
pub place_within : (k : ℕ) (order : List ℕ) → 1 ≤ times k order → place k order < length order
place_within k [] h = absurd (omega arith)
place_within k (i ∷ order) h =
    ⊎_elim
    (λ e. subst (λ (v : ℕ). place k (v ∷ order) < length (v ∷ order)) e (rw place_here (omega arith)))
    (λ ne. rw (place_on k i order ne) (omega (arith, place_within k order (omega (arith, times_other k i order ne))))) (cases_eq k i)

-- what stands at the place of k is k
pub at_place : (k : ℕ) (order : List ℕ) → 1 ≤ times k order → get_or order (place k order) 0 ≡ k
at_place k [] h = absurd (omega arith)
at_place k (i ∷ order) h =
    ⊎_elim
    (λ e. subst (λ (v : ℕ). get_or (v ∷ order) (place k (v ∷ order)) 0 ≡ k) e (ap (λ p. get_or (k ∷ order) p 0) (place_here k order)))
    (λ ne. ap (λ p. get_or (i ∷ order) p 0) (place_on k i order ne) ∙ at_place k order (omega (arith, times_other k i order ne))) (cases_eq k i)

-- and where nodes stand once, the place of what stands at i is i
pub place_at : (order : List ℕ) (i : ℕ) → ((k : ℕ) → times k order ≤ 1) → i < length order → place (get_or order i 0) order ≡ i
place_at [] i once h = absurd (omega arith)
place_at (x ∷ order) zero once h = place_here x order
place_at (x ∷ order) (suc i) once h =
    let k = get_or order i 0 in
    let there : 1 ≤ times k order = times_at order i (omega arith) in
    let ne : k ≢ x = λ e. let m = subst (λ (v : ℕ). 1 ≤ times v order) e there in omega (arith, once x, times_itself x order) in
    place_on k x order ne ∙ ap suc (place_at order i (λ j. omega (arith, once j)) (omega arith))

-- of two nodes the one that comes before the other doesn't stand behind it
pub place_kept : (before : ℕ → ℕ → Type 0) (order : List ℕ) (x y : ℕ) → NoneAhead before order → 1 ≤ times x order → place y order < place x order → before x y → ⊥
place_kept before [] x y h m l c = absurd (omega arith)
place_kept before (z ∷ order) x y h m l c =
    ⊎_elim
    (λ e. let f : place x (z ∷ order) ≡ 0 = subst (λ (v : ℕ). place x (v ∷ order) ≡ 0) e (place_here x order) in omega arith)
    (λ ne.
    let there : 1 ≤ times x order = omega (arith, times_other x z order ne) in
    ⊎_elim
    (λ e. all_at (λ a. before a z → ⊥) order x h.0 there (subst (λ (v : ℕ). before x v) e c))
    (λ d. place_kept before order x y h.1 there (omega (arith, place_on x z order ne, place_on y z order d)) c) (cases_eq y z)) (cases_eq x z)

-- ---- exchanges of neighbours
-- an order is what stands ahead of two neighbours, the two, and what stands behind
split_two : (order : List ℕ) (k : ℕ) → suc k < length order → order ≡ take k order ++ get_or order k 0 ∷ get_or order (suc k) 0 ∷ drop (suc (suc k)) order
split_two [] k h = absurd (omega arith)
split_two (x ∷ []) zero h = absurd (omega arith)
split_two (x ∷ y ∷ order) zero h = refl
split_two (x ∷ order) (suc k) h = ap (λ o. x ∷ o) (split_two order k (omega arith))

-- two neighbours written at each other's place are exchanged
swap_two : (d : ℕ) (order : List ℕ) (k : ℕ) → suc k < length order
    → set (set order k (get_or order (suc k) d)) (suc k) (get_or order k d) ≡ take k order ++ get_or order (suc k) 0 ∷ get_or order k 0 ∷ drop (suc (suc k)) order
swap_two d [] k h = absurd (omega arith)
swap_two d (x ∷ []) zero h = absurd (omega arith)
swap_two d (x ∷ y ∷ order) zero h = refl
swap_two d (x ∷ order) (suc k) h = ap (λ o. x ∷ o) (swap_two d order k (omega arith))

-- to swap two places next to one another exchanges these neighbours
swapped : (order : List ℕ) (k : ℕ) → suc k < length order → swap order k (k + 1) ≡ take k order ++ get_or order (suc k) 0 ∷ get_or order k 0 ∷ drop (suc (suc k)) order
swapped [] k h = absurd (omega arith)
swapped (x ∷ order) k h = ap (swap (x ∷ order) k) (add-one k) ∙ swap_two x (x ∷ order) k h

-- ---- pairs that stand the other way round
-- how many of two lists stand ahead of a node is counted in each
ahead_append : (to : List ℕ) (k : ℕ) (xs ys : List ℕ) → count_ahead to k (xs ++ ys) ≡ count_ahead to k xs + count_ahead to k ys
ahead_append to k [] ys = omega arith
ahead_append to k (x ∷ xs) ys = omega (arith, ahead_append to k xs ys)

-- an exchange of neighbours that stand the other way round leaves one pair less
pub turned_less : (to front : List ℕ) (x y : ℕ) (back : List ℕ) → place y to < place x to
    → count_turned (front ++ x ∷ y ∷ back) to ≡ suc (count_turned (front ++ y ∷ x ∷ back) to)
turned_less to [] x y back h =
    let e : ◌≡◌ {A = ℕ} (cond (nat_lt (place y to) (place x to)) 1 0) 1 = ap (λ b. cond b 1 0) (lt-ltb (place y to) (place x to) h) in
    let f : ◌≡◌ {A = ℕ} (cond (nat_lt (place x to) (place y to)) 1 0) 0 = ap (λ b. cond b 1 0) (le-ltb (place x to) (place y to) (omega arith)) in
    omega arith
turned_less to (z ∷ front) x y back h =
    omega (arith, turned_less to front x y back h, ahead_append to z front (x ∷ y ∷ back), ahead_append to z front (y ∷ x ∷ back))

-- ---- each number once
-- an allowed order has each node once
pub each_once_of : (n : ℕ) (before : ℕ → ℕ → Type 0) (order : List ℕ) → IsLinearExtension n before order → EachOnce n order
each_once_of n before order l = record { below = l.below; once = l.once }

-- no node stands there twice
pub at_most : (n : ℕ) (order : List ℕ) → EachOnce n order → (k : ℕ) → times k order ≤ 1
at_most n order o k =
    ⊎_elim
    (λ l. let e = o.once k l in omega arith)
    (λ l. ⊎_elim (λ m. omega arith) (λ m. let b = all_at (λ j. j < n) order k o.below m in omega arith) (cases_lt (times k order) 1)) (cases_lt k n)

-- lists with the same numbers equally often are equally long
same_length : (xs ys : List ℕ) → ((k : ℕ) → times k xs ≡ times k ys) → length xs ≡ length ys
same_length [] [] h = refl
same_length [] (y ∷ ys) h = absurd (omega (arith, h y, times_itself y ys))
same_length (x ∷ xs) ys h =
    let split = times_found x ys (omega (arith, h x, times_itself x xs)) in
    let rest : (k : ℕ) → times k xs ≡ times k (split.0 ++ split.1) = λ k.
    omega (arith, h k, ap (times k) split.2, times_append k split.0 (x ∷ split.1), times_append k split.0 split.1) in
    let e = same_length xs (split.0 ++ split.1) rest in
    let f : length ys ≡ length (split.0 ++ x ∷ split.1) = ap (λ (o : List ℕ). length o) split.2 in
    omega (arith, e, f, length-append split.0 split.1, length-append split.0 (x ∷ split.1))

-- ---- the end: neighbours all stand as in the other order
module _ (order to : List ℕ) (counts : (k : ℕ) → times k order ≡ times k to) (once : (k : ℕ) → times k to ≤ 1)
    (sorted : (k : ℕ) → k + 1 < length order → place (get_or order k 0) to ≤ place (get_or order (k + 1) 0) to) where
  -- each node of the order stands in the other one
  there : (i : ℕ) → i < length order → 1 ≤ times (get_or order i 0) to
  there i l = omega (arith, times_at order i l, counts (get_or order i 0))

  -- two neighbours are different nodes
  differ : (k : ℕ) → suc k < length order → get_or order k 0 ≢ get_or order (suc k) 0
  differ k l e =
      let x = get_or order k 0 in
      let n : times x order ≡ times x (take k order) + times x (x ∷ get_or order (suc k) 0 ∷ drop (suc (suc k)) order) =
      ap (times x) (split_two order k l) ∙ times_append x (take k order) (x ∷ get_or order (suc k) 0 ∷ drop (suc (suc k)) order) in
      let m : times x (get_or order (suc k) 0 ∷ drop (suc (suc k)) order) ≡ 1 + times x (drop (suc (suc k)) order) =
      subst (λ (v : ℕ). times x (v ∷ drop (suc (suc k)) order) ≡ 1 + times x (drop (suc (suc k)) order)) e (times_itself x (drop (suc (suc k)) order)) in
      omega (arith, n, m, counts x, once x, times_itself x (get_or order (suc k) 0 ∷ drop (suc (suc k)) order))

  -- places rise strictly
  rises : (k : ℕ) → suc k < length order → place (get_or order k 0) to < place (get_or order (suc k) 0) to
  rises k l =
      let f : place (get_or order k 0) to ≤ place (get_or order (suc k) 0) to = subst (λ (j : ℕ). place (get_or order k 0) to ≤ place (get_or order j 0) to) (add-one k) (sorted k (omega arith)) in
      ⊎_elim (λ m. m) (λ m.
      let e : place (get_or order k 0) to ≡ place (get_or order (suc k) 0) to = omega arith in
      absurd (differ k l (sym (at_place (get_or order k 0) to (there k (omega arith))) ∙ ap (λ p. get_or to p 0) e ∙ at_place (get_or order (suc k) 0) to (there (suc k) l))))
      (cases_lt (place (get_or order k 0) to) (place (get_or order (suc k) 0) to))

  -- where neighbours all stand as in the other order, a node stands there no earlier
  at_least : (i : ℕ) → i < length order → i ≤ place (get_or order i 0) to
  at_least zero l = omega arith
  at_least (suc i) l = let e = at_least i (omega arith) in let f = rises i l in omega arith

  -- and no later
  at_most_place : (d i : ℕ) → suc (i + d) ≡ length order → place (get_or order i 0) to ≤ i
  at_most_place zero i e =
      let l : i < length order = omega arith in
      omega (arith, place_within (get_or order i 0) to (there i l), same_length order to counts)
  at_most_place (suc d) i e =
      let f = at_most_place d (suc i) (omega arith) in
      let g = rises i (omega arith) in
      omega arith

  -- so at each place the same node stands in both
  same_at : (i : ℕ) → i < length order → get_or order i 0 ≡ get_or to i 0
  same_at i l =
      let d = length order - suc i in
      let e : place (get_or order i 0) to ≡ i = let f = at_least i l in let g = at_most_place d i (omega arith) in omega arith in
      sym (at_place (get_or order i 0) to (there i l)) ∙ ap (λ p. get_or to p 0) e

  -- an order whose neighbours all stand as in another one is that one
  pub same_order : order ≡ to
  same_order = ext_get_or 0 order to (same_length order to counts) same_at

-- ---- the walk
-- a walk that has come to an order, and how many pairs still stand the other way round than at its end
pub record IsWalking (n : ℕ) (before : ℕ → ℕ → Type 0) (from to order : List ℕ) (orders : List (List ℕ)) : Type 0 where
  pub walk : IsWalk n before from orders order
  pub allowed : IsLinearExtension n before order
  pub count : length orders + count_turned order to ≡ count_turned from to + 1

-- a walk with one exchange more is a walk
walk_push : (n : ℕ) (before : ℕ → ℕ → Type 0) (from order next : List ℕ) (orders : List (List ℕ)) → IsWalk n before from orders order → IsExchange before order next → IsLinearExtension n before next
    → IsWalk n before from (orders ++ next ∷ []) next
walk_push n before from order next [] h e l = absurd h
walk_push n before from order next (o ∷ []) h e l = (h.0, h.1, subst (λ (v : List ℕ). IsExchange before v next) (sym h.2) e, (refl, l, refl))
walk_push n before from order next (o ∷ p ∷ orders) h e l = (h.0, h.1, h.2, walk_push n before p order next (p ∷ orders) h.3 e l)

module _ (n : ℕ) (before : ℕ → ℕ → Type 0) (from to order : List ℕ) (orders : List (List ℕ)) (last : IsLinearExtension n before to) (h : IsWalking n before from to order orders)
    (k : ℕ) (within : k + 1 < length order) (turned : place (get_or order (k + 1) 0) to < place (get_or order k 0) to) where
  -- the second neighbour stands in the order
  within' : suc k < length order
  within' = omega arith

  -- the two stand the other way round in the order to go to
  turned' : place (get_or order (suc k) 0) to < place (get_or order k 0) to
  turned' = subst (λ (j : ℕ). place (get_or order j 0) to < place (get_or order k 0) to) (add-one k) turned

  -- neighbours that stand the other way round in another allowed order are free
  free : IsFree before (get_or order k 0) (get_or order (suc k) 0)
  free = record {
    differ = λ e. let f = ap (λ v. place v to) e in let g = turned' in omega arith;
    not_before = place_kept before to (get_or order k 0) (get_or order (suc k) 0) last.kept
        (omega (arith, times_at order k (omega arith), same_times n before order to h.allowed last (get_or order k 0))) turned';
    not_after = (none_ahead_at before (take k order) (get_or order k 0) (get_or order (suc k) 0 ∷ drop (suc (suc k)) order) (subst (NoneAhead before) (split_two order k within') h.allowed.kept)).0;
  }

  -- to swap them is an exchange of free neighbours
  exchanged : IsExchange before order (swap order k (k + 1))
  exchanged = record {
    front = take k order;
    left = get_or order k 0;
    right = get_or order (suc k) 0;
    back = drop (suc (suc k)) order;
    was = split_two order k within';
    is = swapped order k within';
    free = free;
  }

  -- it leaves one pair less that stands the other way round
  fewer : count_turned order to ≡ suc (count_turned (swap order k (k + 1)) to)
  fewer =
      ap (λ (o : List ℕ). count_turned o to) (split_two order k within')
      ∙ turned_less to (take k order) (get_or order k 0) (get_or order (suc k) 0) (drop (suc (suc k)) order) turned'
      ∙ ap (λ (o : List ℕ). suc (count_turned o to)) (sym (swapped order k within'))

  -- so fewer are left
  pub walking_less : count_turned (swap order k (k + 1)) to < count_turned order to
  walking_less = let e = fewer in omega arith

  -- and the walk goes on from there
  pub walking_more : IsWalking n before from to (swap order k (k + 1)) (orders ++ swap order k (k + 1) ∷ [])
  walking_more =
      let l = next_is_allowed before n order (swap order k (k + 1)) exchanged h.allowed in
      record {
        walk = walk_push n before from order (swap order k (k + 1)) orders h.walk exchanged l;
        allowed = l;
        count = let e = fewer in let f = h.count in omega (arith, length-append orders (swap order k (k + 1) ∷ []));
      }

-- ---- no pair of an order stands the other way round in itself
-- nothing stands ahead of the first of an order
ahead_first : (x : ℕ) (to xs : List ℕ) → count_ahead (x ∷ to) x xs ≡ 0
ahead_first x to [] = refl
ahead_first x to (i ∷ xs) =
    let e : ◌≡◌ {A = ℕ} (cond (nat_lt (place i (x ∷ to)) (place x (x ∷ to))) 1 0) 0 =
    ap (λ b. cond b 1 0) (le-ltb (place i (x ∷ to)) (place x (x ∷ to)) (let f = place_here x to in omega arith)) in
    let g = ahead_first x to xs in
    omega arith

-- what is below stays below with one added to both
lt_suc : (a b : ℕ) → nat_lt (suc a) (suc b) ≡ nat_lt a b
lt_suc a b = ⊎_elim (λ l. lt-ltb (suc a) (suc b) (omega arith) ∙ sym (lt-ltb a b l)) (λ l. le-ltb (suc a) (suc b) (omega arith) ∙ sym (le-ltb a b l)) (cases_lt a b)

-- what doesn't stand in a list isn't its first
absent_head : (x i : ℕ) (xs : List ℕ) → times x (i ∷ xs) ≡ 0 → i ≢ x
absent_head x i xs h e = let f = subst (λ (v : ℕ). times x (v ∷ xs) ≡ 0) e h in omega (arith, f, times_itself x xs)

-- a node put in front of the other order changes nothing for those behind it
ahead_on : (x : ℕ) (to : List ℕ) (k : ℕ) (xs : List ℕ) → k ≢ x → times x xs ≡ 0 → count_ahead (x ∷ to) k xs ≡ count_ahead to k xs
ahead_on x to k [] ne h = refl
ahead_on x to k (i ∷ xs) ne h =
    let e : nat_lt (place i (x ∷ to)) (place k (x ∷ to)) ≡ nat_lt (place i to) (place k to) =
    ap (λ p. nat_lt p (place k (x ∷ to))) (place_on i x to (absent_head x i xs h)) ∙ ap (nat_lt (suc (place i to))) (place_on k x to ne) ∙ lt_suc (place i to) (place k to) in
    let f : ◌≡◌ {A = ℕ} (cond (nat_lt (place i (x ∷ to)) (place k (x ∷ to))) 1 0) (cond (nat_lt (place i to) (place k to)) 1 0) = ap (λ b. cond b 1 0) e in
    let g = ahead_on x to k xs ne (omega arith) in
    omega arith

-- nor does it change which pairs stand the other way round
turned_on : (x : ℕ) (to xs : List ℕ) → times x xs ≡ 0 → count_turned xs (x ∷ to) ≡ count_turned xs to
turned_on x to [] h = refl
turned_on x to (i ∷ xs) h =
    let e = ahead_on x to i xs (absent_head x i xs h) (omega arith) in
    let f = turned_on x to xs (omega arith) in
    omega arith

-- no pair of an order stands the other way round in itself
turned_itself : (to : List ℕ) → ((k : ℕ) → times k to ≤ 1) → count_turned to to ≡ 0
turned_itself [] once = refl
turned_itself (x ∷ to) once =
    let e = ahead_first x to to in
    let f = turned_on x to to (omega (arith, once x, times_itself x to)) in
    let g = turned_itself to (λ k. omega (arith, once k)) in
    omega arith

-- ---- what the array of places tells
module _ (n : ℕ) (before : ℕ → ℕ → Type 0) (order to : List ℕ) (places : List ℕ) (l : IsLinearExtension n before order) (told : (k : ℕ) → k < n → slice_index places k ≡ place k to) where
  -- the array has the place of each node of the order
  told_at : (i : ℕ) → i < length order → slice_index places (get_or order i 0) ≡ place (get_or order i 0) to
  told_at i h = told (get_or order i 0) (all_at (λ k. k < n) order (get_or order i 0) l.below (times_at order i h))

  -- neighbours whose places are the other way round in the array stand so in the other order
  pub turned_there : (k : ℕ) → k + 1 < length order → slice_index places (slice_index order (k + 1)) < slice_index places (slice_index order k) → place (get_or order (k + 1) 0) to < place (get_or order k 0) to
  turned_there k h t = let e = told_at k (omega arith) in let f = told_at (k + 1) h in omega arith

  -- and where no places are, no neighbours do
  pub sorted_there : ((k : ℕ) → k + 1 < length order → slice_index places (slice_index order k) ≤ slice_index places (slice_index order (k + 1)))
      → (k : ℕ) → k + 1 < length order → place (get_or order k 0) to ≤ place (get_or order (k + 1) 0) to
  sorted_there s k h = let e = told_at k (omega arith) in let f = told_at (k + 1) h in let g = s k h in omega arith

-- ---- the walk has come to its end
module _ (n : ℕ) (before : ℕ → ℕ → Type 0) (from to order : List ℕ) (orders : List (List ℕ)) (last : IsLinearExtension n before to) (h : IsWalking n before from to order orders)
    (sorted : (k : ℕ) → k + 1 < length order → place (get_or order k 0) to ≤ place (get_or order (k + 1) 0) to) where
  -- the other order has each node once at most
  once : (k : ℕ) → times k to ≤ 1
  once = at_most n to (each_once_of n before to last)

  -- where no neighbours stand the other way round, the walk has come to its end
  come : order ≡ to
  come = same_order order to (same_times n before order to h.allowed last) once sorted

  -- it is a walk to that end
  pub walked : IsWalk n before from orders to
  walked = subst (λ (o : List ℕ). IsWalk n before from orders o) come h.walk

  -- it has one order more than pairs that stood the other way round
  pub walked_length : length orders ≡ count_turned from to + 1
  walked_length =
      let e = turned_itself to once in
      let f = ap (λ (o : List ℕ). count_turned o to) come in
      let g = h.count in
      omega arith

-- ---- the array of places
-- the array has the places of the first i nodes
pub record IsPlaced (n : ℕ) (order : List ℕ) (i : ℕ) (places : List ℕ) : Type 0 where
  pub len : length places ≡ n
  pub placed : (k : ℕ) → 1 ≤ times k (take i order) → slice_index places k ≡ place k order

module _ (n : ℕ) (order : List ℕ) (each : EachOnce n order) (i : ℕ) (places : List ℕ) (within : i < length order) (h : IsPlaced n order i places) where
  -- the next node is one of those of the array
  pub node_within : get_or order i 0 < n
  node_within = all_at (λ k. k < n) order (get_or order i 0) each.below (times_at order i within)

  -- with its place written down the array has one node more
  pub placed_more : IsPlaced n order (i + 1) (set places (get_or order i 0) i)
  placed_more = record {
    len = length-set places (get_or order i 0) i ∙ h.len;
    placed = λ k m.
        ⊎_elim
        (λ e. ap (slice_index (set places (get_or order i 0) i)) e
        ∙ get_or-set_same places (get_or order i 0) i 0 (rw h.len node_within)
        ∙ sym (ap (λ v. place v order) e ∙ place_at order i (at_most n order each) within))
        (λ ne. get_or-set_other places (get_or order i 0) k i 0 ne
        ∙ h.placed k (let e = ap (times k) (take_more order i 0 within) in omega (arith, times_append k (take i order) (get_or order i 0 ∷ []), times_other k (get_or order i 0) [] ne)))
        (cases_eq k (get_or order i 0));
  }
