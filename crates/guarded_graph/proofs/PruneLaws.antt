-- Pruning keeps of a graph with the guard in front just what it keeps of the graph: nothing may go first while the guard is there, and
-- it goes where nothing else may go last.
use Rattle.std.proofs.Common.{◌≡◌, ◌≢◌, ◌↔◌, ℕ, zero, suc, ◌+◌, ◌<◌, ◌≤◌, ◌==◌, true, false, cond, inl, inr, List, [], ◌∷◌, ◌++◌, length, length-append, get_or, refl, sym, ap, subst, ◌∙◌, arith, add-one, zero-add, eq-eqb, ne_eqb}
use Rattle.std.proofs.lemmas.Bool.{cases_Bool, cases_eq, eqb-false}
use Rattle.std.specs.List.{AllByRecursion}
use Rattle.fs_semantics.specs.FileTree.{Path}
use Rattle.fs_semantics.specs.Programs.{Program, Id}
use Rattle.fs_semantics.specs.Orders.{times, up_from}
use Rattle.fs_semantics.proofs.Counts.{times_append, times_itself, all_at}
use Rattle.fs_semantics.proofs.Commuting.{none_above}
use Rattle.effect_sets.specs.Footprints.{footprint, AreApart}
use Rattle.commute_prune.specs.Pruning.{ApartAt, MayBeLast, MayBeFirst, Prunes}
use Rattle.sure_folders.specs.Pruning.{without, Move, ToFirst, ToLast}
use Rattle.commute_prune.specs.Keeping.{Keeps}
use Rattle.sure_folders.proofs.Lists.{none_left, others_left}
use Rattle.commute_prune.proofs.StepLaws.{without_keeps}
use Rattle.given_hosts.specs.Guard.{guard, guarded}
use Rattle.fs_semantics.proofs.Ground.{up_below}

-- ---- numbers that are taken out

-- a number that is taken out is passed over
passed : (k j : ℕ) (ks : List ℕ) → (j == k) ≡ true → without k (j ∷ ks) ≡ without k ks
passed k j ks e = ap (λ b. cond b (without k ks) (j ∷ without k ks)) e

-- and another one stays
stays : (k j : ℕ) (ks : List ℕ) → (j == k) ≡ false → without k (j ∷ ks) ≡ j ∷ without k ks
stays k j ks e = ap (λ b. cond b (without k ks) (j ∷ without k ks)) e

-- two numbers may be taken out in either order
either_way : (a b : ℕ) (ks : List ℕ) → without a (without b ks) ≡ without b (without a ks)
either_way a b [] = refl
either_way a b (j ∷ ks) = elim (cases_Bool (j == a)) [
  | inl x ↦ elim (cases_Bool (j == b)) [
    | inl y ↦ ap (without a) (passed b j ks y) ∙ either_way a b ks ∙ sym (ap (without b) (passed a j ks x))
    | inr y ↦ ap (without a) (stays b j ks y) ∙ passed a j (without b ks) x ∙ either_way a b ks ∙ sym (ap (without b) (passed a j ks x))
  ]
  | inr x ↦ elim (cases_Bool (j == b)) [
    | inl y ↦ ap (without a) (passed b j ks y) ∙ either_way a b ks ∙ sym (ap (without b) (stays a j ks x) ∙ passed b j (without a ks) y)
    | inr y ↦ ap (without a) (stays b j ks y) ∙ stays a j (without b ks) x ∙ ap (λ l. j ∷ l) (either_way a b ks) ∙ sym (ap (without b) (stays a j ks x) ∙ stays b j (without a ks) y)
  ]
]

-- the numbers up to one more are those and the last
one_up : (k n : ℕ) → up_from k (suc n) ≡ up_from k n ++ (k + n) ∷ []
one_up k zero = let e : k ≡ k + zero = omega arith in ap (λ m. m ∷ []) e
one_up k (suc n) =
    let e : suc k + n ≡ k + suc n = omega arith in
    ap (λ l. k ∷ l) (one_up (suc k) n ∙ ap (λ m. up_from (suc k) n ++ m ∷ []) e)

-- with the last taken out, numbers below it are left as they were
last_out : (n : ℕ) (ks : List ℕ) → AllByRecursion (λ j. j < n) ks → without n (ks ++ n ∷ []) ≡ ks
last_out n [] h = passed n n [] (eq-eqb n n refl)
last_out n (j ∷ ks) h =
    let differ : (j == n) ≡ false = ne_eqb j n (λ e. let low : j < n = h.0 in omega (arith, low, e)) in
    stays n j (ks ++ n ∷ []) differ ∙ ap (λ l. j ∷ l) (last_out n ks h.1)

module _ (given : List Path) (es : List Program) (before after : ℕ → ℕ → Type 0) (first : (b : ℕ) → b < length es → after (length es) b)
    (never : (a : ℕ) → a ≤ length es → after a (length es) → ⊥) (others : (a b : ℕ) → a < length es → b < length es → after a b ↔ before a b) where
  -- the programs ahead of the guard stand where they stood
  in_front : (xs ys : List Program) (i : ℕ) → i < length xs → get_or (xs ++ ys) i Id ≡ get_or xs i Id
  in_front [] ys i h = absurd (omega (arith, h))
  in_front (x ∷ xs) ys zero h = refl
  in_front (x ∷ xs) ys (suc i) h = in_front xs ys i (omega (arith, h))

  -- programs that are apart beside the guard are apart
  apart_back : (j k : ℕ) → j < length es → k < length es → ApartAt (guarded given es) j k → ApartAt es j k
  apart_back j k x y a =
      subst (λ e. AreApart (footprint e) (footprint (get_or es k Id))) (in_front es (guard given ∷ []) j x)
      (subst (λ e. AreApart (footprint (get_or (guarded given es) j Id)) (footprint e)) (in_front es (guard given ∷ []) k y) a)

  -- and those that are apart are so beside the guard
  apart_to : (j k : ℕ) → j < length es → k < length es → ApartAt es j k → ApartAt (guarded given es) j k
  apart_to j k x y a =
      subst (λ e. AreApart (footprint e) (footprint (get_or (guarded given es) k Id))) (sym (in_front es (guard given ∷ []) j x))
      (subst (λ e. AreApart (footprint (get_or es j Id)) (footprint e)) (sym (in_front es (guard given ∷ []) k y)) a)

  -- ---- behind the guard

  module _ (ks : List ℕ) (below : AllByRecursion (λ j. j < length es) ks) where
    -- what is one of these is a program's number
    low : (k : ℕ) → 0 < times k ks → k < length es
    low k h = all_at (λ j. j < length es) ks k below h

    -- what stands once is one of these
    counted : (k : ℕ) → times k ks ≡ 1 → 0 < times k ks
    counted k h = omega (arith, h)

    -- what may be last by the order with the guard may be so without it
    last_back : (k : ℕ) → MayBeLast (guarded given es) after ks k → MayBeLast es before ks k
    last_back k m = let x = low k (counted k m.once) in record {
      once = m.once;
      none_after = λ j h b. m.none_after j h ((others k j x (low j h)).1 b);
      apart = λ j h d n. apart_back k j x (low j h) (m.apart j h d (λ a. n ((others j k (low j h) x).0 a)));
    }

    -- and what may be last without it may be so with it
    last_to : (k : ℕ) → MayBeLast es before ks k → MayBeLast (guarded given es) after ks k
    last_to k m = let x = low k (counted k m.once) in record {
      once = m.once;
      none_after = λ j h a. m.none_after j h ((others k j x (low j h)).0 a);
      apart = λ j h d n. apart_to k j x (low j h) (m.apart j h d (λ b. n ((others j k (low j h) x).1 b)));
    }

    -- what may be first by the order with the guard may be so without it
    first_back : (k : ℕ) → MayBeFirst (guarded given es) after ks k → MayBeFirst es before ks k
    first_back k m = let x = low k (counted k m.once) in record {
      once = m.once;
      none_before = λ j h b. m.none_before j h ((others j k (low j h) x).1 b);
      apart = λ j h d n. apart_back k j x (low j h) (m.apart j h d (λ a. n ((others k j x (low j h)).0 a)));
    }

    -- and what may be first without it may be so with it
    first_to : (k : ℕ) → MayBeFirst es before ks k → MayBeFirst (guarded given es) after ks k
    first_to k m = let x = low k (counted k m.once) in record {
      once = m.once;
      none_before = λ j h a. m.none_before j h ((others j k (low j h) x).0 a);
      apart = λ j h d n. apart_to k j x (low j h) (m.apart j h d (λ b. n ((others k j x (low j h)).1 b)));
    }

  -- moves that prune programs behind the guard prune them without it
  behind : (moves : List Move) (ks kept : List ℕ) → AllByRecursion (λ j. j < length es) ks → Prunes (guarded given es) after moves ks kept → Prunes es before moves ks kept
  behind [] ks kept below h = (h.0, (λ k m. h.1 k (last_to ks below k m)), (λ k m. h.2 k (first_to ks below k m)))
  behind (ToFirst k ∷ moves) ks kept below h = (
    (λ j m. h.0 j (last_to ks below j m)),
    record { holds = first_back ks below k h.1.holds; least = λ j l m. h.1.least j l (first_to ks below j m) },
    behind moves (without k ks) kept (without_keeps (λ j. j < length es) k ks below) h.2,
  )
  behind (ToLast k ∷ moves) ks kept below h = (
    record { holds = last_back ks below k h.0.holds; least = λ j l m. h.0.least j l (last_to ks below j m) },
    behind moves (without k ks) kept (without_keeps (λ j. j < length es) k ks below) h.1,
  )

  -- ---- while the guard is there

  module _ (ks : List ℕ) (below : AllByRecursion (λ j. j < length es + 1) ks) (there : times (length es) ks ≡ 1) where
    -- one of these other than the guard is a program's number
    under : (k : ℕ) → 0 < times k ks → k ≢ length es → k < length es
    under k h d = let x = all_at (λ j. j < length es + 1) ks k below h in omega (arith, x, d)

    -- what is left without the guard isn't the guard
    is_other : (k : ℕ) → 0 < times k (without (length es) ks) → k ≢ length es
    is_other k h e = let none = none_left (length es) ks in let same = ap (λ j. times j (without (length es) ks)) e in omega (arith, h, none, same)

    -- what is left without the guard was one of these
    among : (k : ℕ) → 0 < times k (without (length es) ks) → 0 < times k ks
    among k h = subst (λ m. 0 < m) (others_left k (length es) ks (is_other k h)) h

    -- what may be last while the guard is there may be so without it
    with_it_back : (k : ℕ) → k ≢ length es → MayBeLast (guarded given es) after ks k → MayBeLast es before (without (length es) ks) k
    with_it_back k d m = let x = under k (let o = m.once in omega (arith, o)) d in record {
      once = others_left k (length es) ks d ∙ m.once;
      none_after = λ j h b. m.none_after j (among j h) ((others k j x (under j (among j h) (is_other j h))).1 b);
      apart = λ j h e n. apart_back k j x (under j (among j h) (is_other j h)) (m.apart j (among j h) e (λ a. n ((others j k (under j (among j h) (is_other j h)) x).0 a)));
    }

    -- one of these other than the guard is left without it
    left_there : (j : ℕ) → 0 < times j ks → j ≢ length es → 0 < times j (without (length es) ks)
    left_there j h d = subst (λ m. 0 < m) (sym (others_left j (length es) ks d)) h

    -- and what may be last without the guard may be so while it is there
    with_it_to : (k : ℕ) → k ≢ length es → MayBeLast es before (without (length es) ks) k → MayBeLast (guarded given es) after ks k
    with_it_to k d m =
        let once : times k ks ≡ 1 = sym (others_left k (length es) ks d) ∙ m.once in
        let x = under k (omega (arith, once)) d in record {
          once = once;
          none_after = λ j h a. elim (cases_eq j (length es)) [
            | inl e ↦ never k (omega (arith, x)) (subst (after k) e a)
            | inr n ↦ m.none_after j (left_there j h n) ((others k j x (under j h n)).0 a)
          ];
          apart = λ j h e n. elim (cases_eq j (length es)) [
            | inl s ↦ absurd (n (subst (λ i. after i k) (sym s) (first k x)))
            | inr o ↦ apart_to k j x (under j h o) (m.apart j (left_there j h o) e (λ b. n ((others j k (under j h o) x).1 b)))
          ];
        }

    -- the guard may go first
    guard_may : MayBeFirst (guarded given es) after ks (length es)
    guard_may = record {
      once = there;
      none_before = λ j h a. elim (cases_eq j (length es)) [
        | inl e ↦ never j (omega (arith, e)) a
        | inr n ↦ let x = under j h n in never j (omega (arith, x)) a
      ];
      apart = λ j h d n. absurd (n (first j (under j h d)));
    }

    -- and no other may while it is there
    no_other_may : (k : ℕ) → k ≢ length es → MayBeFirst (guarded given es) after ks k → ⊥
    no_other_may k d m = m.none_before (length es) (omega (arith, there)) (first k (under k (let o = m.once in omega (arith, o)) d))

    -- without the guard all are programs' numbers
    others_below : (js : List ℕ) → AllByRecursion (λ j. j < length es + 1) js → AllByRecursion (λ j. j < length es) (without (length es) js)
    others_below [] h = tt
    others_below (j ∷ js) h = elim (cases_Bool (j == length es)) [
      | inl e ↦ subst (AllByRecursion (λ i. i < length es)) (sym (passed (length es) j js e)) (others_below js h.1)
      | inr e ↦ subst (AllByRecursion (λ i. i < length es)) (sym (stays (length es) j js e)) ((let x : j < length es + 1 = h.0 in let d = eqb-false j (length es) e in omega (arith, x, d)), others_below js h.1)
    ]

  -- some moves prune these without the guard to what is kept
  abbrev Found : List ℕ → List ℕ → Type 0
  Found ks kept = (moves : List Move) × Prunes es before moves (without (length es) ks) kept

  -- moves that prune them with the guard lead to moves that do so without it
  with_it : (moves : List Move) (ks kept : List ℕ) → AllByRecursion (λ j. j < length es + 1) ks → times (length es) ks ≡ 1 → Prunes (guarded given es) after moves ks kept → Found ks kept
  with_it [] ks kept below there h = absurd (h.2 (length es) (guard_may ks below there))
  with_it (ToFirst k ∷ moves) ks kept below there h = elim (cases_eq k (length es)) [
    | inl e ↦ (moves, behind moves (without (length es) ks) kept (others_below ks below there ks below) (subst (λ j. Prunes (guarded given es) after moves (without j ks) kept) e h.2))
    | inr d ↦ absurd (no_other_may ks below there k d h.1.holds)
  ]
  with_it (ToLast k ∷ moves) ks kept below there h = elim (cases_eq k (length es)) [
    | inl e ↦
        (moves, behind moves (without (length es) ks) kept (others_below ks below there ks below) (subst (λ j. Prunes (guarded given es) after moves (without j ks) kept) e h.1))
    | inr d ↦
        let still : times (length es) (without k ks) ≡ 1 = others_left (length es) k ks (λ s. d (sym s)) ∙ there in
        let rest = with_it moves (without k ks) kept (without_keeps (λ j. j < length es + 1) k ks below) still h.1 in (
          ToLast k ∷ rest.0,
          (
            record {
              holds = with_it_back ks below there k d h.0.holds;
              least = λ j l m. h.0.least j l (with_it_to ks below there j (is_other ks below there j (let o = m.once in omega (arith, o))) m);
            },
            subst (λ js. Prunes es before rest.0 js kept) (either_way (length es) k ks) rest.1,
          ),
        )
  ]

  -- what pruning keeps with the guard it keeps without it
  pub keeps : (kept : List ℕ) → Keeps (guarded given es) after kept → Keeps es before kept
  keeps kept k =
      let long : length (guarded given es) ≡ suc (length es) = length-append es (guard given ∷ []) ∙ add-one (length es) in
      let all : up_from 0 (length (guarded given es)) ≡ up_from 0 (length es) ++ length es ∷ [] = ap (up_from 0) long ∙ one_up 0 (length es) ∙ ap (λ m. up_from 0 (length es) ++ m ∷ []) (zero-add (length es)) in
      let start = subst (λ js. Prunes (guarded given es) after k.0 js kept) all k.1 in
      let small = up_below 0 (length es) (length es) (omega arith) in
      let below : AllByRecursion (λ j. j < length es + 1) (up_from 0 (length es) ++ length es ∷ []) = subst (AllByRecursion (λ j. j < length es + 1)) all (up_below 0 (length (guarded given es)) (length es + 1) (omega (arith, long))) in
      let there : times (length es) (up_from 0 (length es) ++ length es ∷ []) ≡ 1 = omega (arith, times_append (length es) (up_from 0 (length es)) (length es ∷ []), none_above (length es) (length es) (up_from 0 (length es)) small (omega arith), times_itself (length es) []) in
      let found = with_it k.0 (up_from 0 (length es) ++ length es ∷ []) kept below there start in
      (found.0, subst (λ js. Prunes es before found.0 js kept) (last_out (length es) (up_from 0 (length es)) small) found.1)
