-- Each may come next exactly in the allowed orders.
use Rattle.std.proofs.Common.{◌≡◌, ◌⊎◌, inl, inr, ℕ, zero, suc, ◌+◌, ◌<◌, ◌≤◌, ◌==◌, Bool, true, false, cond, List, [], ◌∷◌, length, refl, sym, ap, subst, ◌∙◌, arith, eqb-true, nat_lt, ltb-true, IsTrue}
use Rattle.std.proofs.lemmas.Bool.{eqb-false, lt-ltb, ltb-false, not-true, and_from}
use Rattle.std.specs.Prelude.{not, ◌&&◌, ◌||◌, ◌↔◌}
use Rattle.std.specs.List.{AllByRecursion}
use Rattle.fs_semantics.specs.Orders.{Told, NoneAhead, times, IsLinearExtension}
use Rattle.order_places.specs.Places.{all_taken, is_ready, with_taken, may_follow, is_in_order, IsStrict}
use Rattle.order_places.proofs.Counting.{total_is, each_once, long_enough}
use Rattle.fs_semantics.proofs.Puts.{and_right}

-- of a conjunction that is true the left side is true
left : (a b : Bool) → (a && b) ≡ true → a ≡ true
left true b h = refl
left false b h = h

-- of a disjunction that is false the first side is false
neither_first : (a b : Bool) → (a || b) ≡ false → a ≡ false
neither_first true b h = h
neither_first false b h = refl

-- of a disjunction that is false the second side is false
neither_second : (a b : Bool) → (a || b) ≡ false → b ≡ false
neither_second true b h = cc
neither_second false b h = h

module _ (n : ℕ) (before : ℕ → ℕ → Bool) where
  -- where all that comes before a node is taken, each of these is
  taken_at : (taken : ℕ → Bool) (i m a : ℕ) → all_taken before taken i m ≡ true → a < m → IsTrue (before a i) → taken a ≡ true
  taken_at taken i zero a h b e = absurd (omega (arith, b))
  taken_at taken i (suc m) a h b e = elim (nat_lt a m) as (λ c. nat_lt a m ≡ c → taken a ≡ true) [
    | true ↦ λ l. taken_at taken i m a (left (all_taken before taken i m) (not (before m i) || taken m) h) (ltb-true a m l) e
    | false ↦ λ l. let past = ltb-false a m l in let here : m ≡ a = omega (arith, b, past) in
        subst (λ k. taken k ≡ true) here (implied (before m i) (taken m) (and_right (all_taken before taken i m) (not (before m i) || taken m) h) (subst (λ k. before k i ≡ true) (sym here) e))
  ] refl
    where
      implied : (x y : Bool) → (not x || y) ≡ true → x ≡ true → y ≡ true
      implied true y h e = h
      implied false y h e = cc

  -- and where each of these is, all are
  at_taken : (taken : ℕ → Bool) (i m : ℕ) → ((a : ℕ) → a < m → IsTrue (before a i) → taken a ≡ true) → all_taken before taken i m ≡ true
  at_taken taken i zero h = refl
  at_taken taken i (suc m) h = and_from (all_taken before taken i m) (not (before m i) || taken m) (at_taken taken i m (λ a b. h a (omega (arith, b)))) (implied (before m i) (taken m) (h m (omega arith)))
    where
      implied : (x y : Bool) → (x ≡ true → y ≡ true) → (not x || y) ≡ true
      implied true y f = f refl
      implied false y f = refl

  -- ---- what follows is an allowed order

  -- an order of nodes that aren't taken, each once at most, which keeps what comes before what
  record Follows (taken : ℕ → Bool) (order : List ℕ) : Type 0 where
    below : AllByRecursion (λ i. i < n) order
    fresh : AllByRecursion (λ i. taken i ≡ false) order
    once : (k : ℕ) → times k order ≤ 1
    kept : NoneAhead (Told before) order

  -- nodes that aren't taken once one more is weren't taken before
  untaken : (taken : ℕ → Bool) (i : ℕ) (order : List ℕ) → AllByRecursion (λ k. with_taken taken i k ≡ false) order → AllByRecursion (λ k. taken k ≡ false) order
  untaken taken i [] h = tt
  untaken taken i (k ∷ order) h = (neither_first (taken k) (k == i) h.0, untaken taken i order h.1)

  -- and that one isn't among them
  none_is : (taken : ℕ → Bool) (i : ℕ) (order : List ℕ) → AllByRecursion (λ k. with_taken taken i k ≡ false) order → times i order ≡ 0
  none_is taken i [] h = refl
  none_is taken i (k ∷ order) h = let none = none_is taken i order h.1 in ap (λ b. cond b 1 0 + times i order) (neither_second (taken k) (k == i) h.0) ∙ omega (arith, none)

  -- where all that comes before a node is taken, none that is left comes before it
  none_held : (taken : ℕ → Bool) (i : ℕ) (order : List ℕ) → all_taken before taken i n ≡ true → AllByRecursion (λ k. k < n) order → AllByRecursion (λ k. taken k ≡ false) order
      → AllByRecursion (λ a. Told before a i → ⊥) order
  none_held taken i [] h below fresh = tt
  none_held taken i (a ∷ order) h below fresh = (
    (λ e. let clash : ◌≡◌ {A = Bool} true false = sym (taken_at taken i n a h below.0 e) ∙ fresh.0 in cc),
    none_held taken i order h below.1 fresh.1,
  )

  -- an order each node of which may come next keeps what comes before what, and takes each node once
  follows : (taken : ℕ → Bool) (order : List ℕ) → may_follow before n taken order ≡ true → Follows taken order
  follows taken [] h = record { below = tt; fresh = tt; once = λ k. omega arith; kept = tt }
  follows taken (i ∷ order) h =
      let ready = left (is_ready before n taken i) (may_follow before n (with_taken taken i) order) h in
      let rest = follows (with_taken taken i) order (and_right (is_ready before n taken i) (may_follow before n (with_taken taken i) order) h) in
      let low = ltb-true i n (left (nat_lt i n) (not (taken i) && all_taken before taken i n) ready) in
      let more = and_right (nat_lt i n) (not (taken i) && all_taken before taken i n) ready in
      let held = and_right (not (taken i)) (all_taken before taken i n) more in
      let fresh = untaken taken i order rest.fresh in
      record {
        below = (low, rest.below);
        fresh = (not-true (taken i) (left (not (taken i)) (all_taken before taken i n) more), fresh);
        once = λ k. elim (i == k) as (λ b. (i == k) ≡ b → cond b 1 0 + times k order ≤ 1) [
          | true ↦ λ e. let none = none_is taken i order rest.fresh in let same = ap (λ j. times j order) (eqb-true i k e) in omega (arith, none, same)
          | false ↦ λ e. let most = rest.once k in omega (arith, most)
        ] refl;
        kept = (none_held taken i order held rest.below fresh, rest.kept);
      }

  -- ---- in an allowed order each may come next

  -- such an order that has every node that isn't taken
  record Covers (taken : ℕ → Bool) (order : List ℕ) : Type 0 where
    below : AllByRecursion (λ i. i < n) order
    all : (k : ℕ) → k < n → (taken k ≡ true) ⊎ (1 ≤ times k order)
    fresh : AllByRecursion (λ i. taken i ≡ false) order
    once : (k : ℕ) → k < n → times k order ≤ 1
    kept : NoneAhead (Told before) order

  -- what holds of all nodes of an order holds of one that stands there
  at_stands : (P : ℕ → Type 0) (a : ℕ) (order : List ℕ) → AllByRecursion P order → 1 ≤ times a order → P a
  at_stands P a [] all h = absurd (omega (arith, h))
  at_stands P a (i ∷ order) all h = elim (i == a) as (λ b. (i == a) ≡ b → 1 ≤ cond b 1 0 + times a order → P a) [
    | true ↦ λ e k. subst P (eqb-true i a e) all.0
    | false ↦ λ e k. at_stands P a order all.1 (omega (arith, k))
  ] refl h

  -- nodes that aren't taken still aren't once another one is
  still_fresh : (taken : ℕ → Bool) (i : ℕ) (order : List ℕ) → AllByRecursion (λ k. taken k ≡ false) order → times i order ≤ 0 → AllByRecursion (λ k. with_taken taken i k ≡ false) order
  still_fresh taken i [] fresh h = tt
  still_fresh taken i (k ∷ order) fresh h = elim (k == i) as (λ b. (k == i) ≡ b → cond b 1 0 + times i order ≤ 0 → (with_taken taken i k ≡ false) × AllByRecursion (λ j. with_taken taken i j ≡ false) order) [
    | true ↦ λ e l. absurd (omega (arith, l))
    | false ↦ λ e l. ((λ t. fresh.0 t || e t), still_fresh taken i order fresh.1 (omega (arith, l)))
  ] refl h

  -- each number is told to be itself
  equal_is : (i : ℕ) → (i == i) ≡ true
  equal_is i = elim (i == i) as (λ b. (i == i) ≡ b → b ≡ true) [ true ↦ λ k. refl | false ↦ λ k. absurd (eqb-false i i k refl) ] refl

  -- a disjunction with a true right side is true
  or_right : (a b : Bool) → b ≡ true → (a || b) ≡ true
  or_right true b h = refl
  or_right false b h = h

  -- a disjunction with a true left side is true
  or_left : (a b : Bool) → a ≡ true → (a || b) ≡ true
  or_left a b h = ap (λ c. c || b) h

  -- in an order that keeps what comes before what, and has all that is left, each may come next
  covers_follow : ((a : ℕ) → Told before a a → ⊥) → (taken : ℕ → Bool) (order : List ℕ) → Covers taken order → may_follow before n taken order ≡ true
  covers_follow never taken [] c = refl
  covers_follow never taken (i ∷ order) c =
      let mine : times i (i ∷ order) ≡ 1 + times i order = ap (λ b. cond b 1 0 + times i order) (equal_is i) in
      let gone : times i order ≤ 0 = let most = c.once i c.below.0 in omega (arith, most, mine) in
      and_from (is_ready before n taken i) (may_follow before n (with_taken taken i) order)
      (and_from (nat_lt i n) (not (taken i) && all_taken before taken i n) (lt-ltb i n c.below.0)
      (and_from (not (taken i)) (all_taken before taken i n) (ap not c.fresh.0) (at_taken taken i n (λ a b e. elim (c.all a b) [
        | inl there ↦ there
        | inr stands ↦ absurd (by_place a e (i == a) refl stands)
      ]))))
      (covers_follow never (with_taken taken i) order record {
        below = c.below.1;
        all = λ k b. elim (c.all k b) [
          | inl there ↦ inl (or_left (taken k) (k == i) there)
          | inr stands ↦ by_head k (i == k) refl stands
        ];
        fresh = still_fresh taken i order c.fresh.1 gone;
        once = λ k b. let most = c.once k b in fewer k (i == k) most;
        kept = c.kept.1;
      })
    where
      by_place : (a : ℕ) → IsTrue (before a i) → (b : Bool) → (i == a) ≡ b → 1 ≤ cond b 1 0 + times a order → ⊥
      by_place a e true k s = never a (subst (λ j. IsTrue (before a j)) (eqb-true i a k) e)
      by_place a e false k s = at_stands (λ j. Told before j i → ⊥) a order c.kept.0 (omega (arith, s)) e

      by_head : (k : ℕ) (b : Bool) → (i == k) ≡ b → 1 ≤ cond b 1 0 + times k order → (with_taken taken i k ≡ true) ⊎ (1 ≤ times k order)
      by_head k true e s = inl (or_right (taken k) (k == i) (ap (λ j. k == j) (eqb-true i k e) ∙ equal_is k))
      by_head k false e s = inr (omega (arith, s))

      fewer : (k : ℕ) (b : Bool) → cond b 1 0 + times k order ≤ 1 → times k order ≤ 1
      fewer k true h = omega (arith, h)
      fewer k false h = omega (arith, h)

  -- each node of an order may come next exactly where the order is allowed
  pub in_order_exactly : (order : List ℕ) → IsStrict n before → length order ≡ n → (is_in_order before n order ≡ true) ↔ IsLinearExtension n (Told before) order
  in_order_exactly order strict long = (
    (λ h. let f = follows (λ k. false) order h in record {
      below = f.below;
      once = each_once n order (λ k b. f.once k) (total_is n order f.below ∙ long);
      kept = f.kept;
    }),
    (λ l. covers_follow strict.never_itself (λ k. false) order record {
      below = l.below;
      all = λ k b. inr (let one = l.once k b in omega (arith, one));
      fresh = none_yet order;
      once = λ k b. let one = l.once k b in omega (arith, one);
      kept = l.kept;
    }),
  )
    where
      none_yet : (xs : List ℕ) → AllByRecursion (λ i. ◌≡◌ {A = Bool} false false) xs
      none_yet [] = tt
      none_yet (x ∷ xs) = (refl, none_yet xs)

-- an allowed order has as many nodes as there are
pub order_is_long : (n : ℕ) (before : ℕ → ℕ → Bool) (order : List ℕ) → IsLinearExtension n (Told before) order → length order ≡ n
order_is_long n before order l = long_enough n order l.below l.once
