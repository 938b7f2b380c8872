-- The moves that are found are those of the pruning.
use Rattle.std.proofs.Common.{◌≡◌, ℕ, suc, zero, ◌+◌, ◌<◌, Bool, true, false, cond, not, ◌&&◌, ◌||◌, ◌==◌, List, [], ◌∷◌, ◌++◌, length, reverse, Option, Some, None, inl, inr, refl, sym, ap, subst, ◌∙◌, arith, eqb-true}
use Rattle.std.proofs.lemmas.List.{reverse-append}
use Rattle.std.specs.List.{AllByRecursion, list_all, find}
use Rattle.std.proofs.lemmas.Bool.{cases_Bool, and_parts, and_from, ne_eqb, eqb-false}
use Rattle.fs_semantics.specs.Programs.{Program}
use Rattle.fs_semantics.specs.Orders.{Told, times, up_from}
use Rattle.fs_semantics.proofs.Counts.{times_itself, times_other, all_at}
use Rattle.orders.specs.Relation.{Relation, comes}
use Rattle.commute_prune.specs.Matrix.{cell, IsMatrix}
use Rattle.commute_prune.specs.Pruning.{ApartAt, MayBeLast, MayBeFirst, IsLeast, Never, Prunes}
use Rattle.sure_folders.specs.Pruning.{Move, ToFirst, ToLast, without, lasts}
use Rattle.commute_prune.specs.Steps.{are_apart, lets_last, lets_first, may_last, may_first, next_move}
use Rattle.commute_prune.specs.Pruned.{lates, Finds, Rises}
use Rattle.commute_prune.proofs.StepLaws.{or_last, or_other, or_none, found_there, without_keeps}

-- ---- numbers that rise

-- a number below all of a list isn't in it
none_of : (k : ℕ) (ks : List ℕ) → AllByRecursion (λ j. k < j) ks → times k ks ≡ 0
none_of k [] h = refl
none_of k (j ∷ ks) h = times_other k j ks (λ e. omega (arith, h.0, e)) ∙ none_of k ks h.1

-- a number of a list that rises is in it once
once : (k : ℕ) (ks : List ℕ) → Rises ks → 0 < times k ks → times k ks ≡ 1
once k [] r h = absurd (omega arith)
once k (j ∷ ks) r h = elim (cases_Bool (j == k)) [
  | inl here ↦ let same = eqb-true j k here in ap (λ i. times i (j ∷ ks)) (sym same) ∙ times_itself j ks ∙ ap (λ n. 1 + n) (none_of j ks r.0)
  | inr other ↦
      let e = times_other k j ks (λ e. eqb-false j k other (sym e)) in
      e ∙ once k ks r.1 (omega (arith, h, e))
]

-- a list that rises does so without one of its numbers
rises_without : (k : ℕ) (ks : List ℕ) → Rises ks → Rises (without k ks)
rises_without k [] r = tt
rises_without k (j ∷ ks) r = elim (cases_Bool (j == k)) [
  | inl here ↦ subst (λ b. Rises (cond b (without k ks) (j ∷ without k ks))) (sym here) (rises_without k ks r.1)
  | inr other ↦ subst (λ b. Rises (cond b (without k ks) (j ∷ without k ks))) (sym other) (without_keeps (λ i. j < i) k ks r.0, rises_without k ks r.1)
]

-- the numbers from one on are above each lesser one
up_above : (k j n : ℕ) → k < j → AllByRecursion (λ i. k < i) (up_from j n)
up_above k j zero h = tt
up_above k j (suc n) h = (h, up_above k (suc j) n (omega arith))

-- the numbers from one on rise
pub up_rises : (k n : ℕ) → Rises (up_from k n)
up_rises k zero = tt
up_rises k (suc n) = (up_above k (suc k) n (omega arith), up_rises (suc k) n)

-- ---- what is found

-- a test that all of a list pass each of them passes
pub all_true : (Q : ℕ → Bool) (ks : List ℕ) (j : ℕ) → list_all Q ks ≡ true → 0 < times j ks → Q j ≡ true
all_true Q [] j h t = absurd (omega arith)
all_true Q (i ∷ ks) j h t = elim (cases_Bool (i == j)) [
  | inl here ↦ ap Q (sym (eqb-true i j here)) ∙ (and_parts (Q i) (list_all Q ks) h).0
  | inr other ↦ all_true Q ks j (and_parts (Q i) (list_all Q ks) h).1 (omega (arith, t, times_other j i ks (λ e. eqb-false i j other (sym e))))
]

-- and a test that each of them passes all do
pub true_all : (Q : ℕ → Bool) (ks : List ℕ) → ((j : ℕ) → 0 < times j ks → Q j ≡ true) → list_all Q ks ≡ true
true_all Q [] h = refl
true_all Q (i ∷ ks) h = and_from (Q i) (list_all Q ks) (h i (omega (arith, times_itself i ks))) (true_all Q ks (λ j t. h j (omega (arith, t))))

-- where nothing is found, none of the list passes
found_none : (P : ℕ → Bool) (ks : List ℕ) → find P ks ≡ None → (j : ℕ) → 0 < times j ks → P j ≡ false
found_none P [] h j t = absurd (omega arith)
found_none P (i ∷ ks) h j t = elim (cases_Bool (P i)) [
  | inl here ↦ let no : ◌≡◌ {A = Option ℕ} (Some i) None = ap (λ b. cond b (Some i) (find P ks)) (sym here) ∙ h in cc
  | inr none ↦ elim (cases_Bool (i == j)) [
    | inl same ↦ ap P (sym (eqb-true i j same)) ∙ none
    | inr other ↦ found_none P ks (ap (λ b. cond b (Some i) (find P ks)) (sym none) ∙ h) j (omega (arith, t, times_other j i ks (λ e. eqb-false i j other (sym e))))
  ]
]

-- what is found passes
found_holds : (P : ℕ → Bool) (ks : List ℕ) (k : ℕ) → find P ks ≡ Some k → P k ≡ true
found_holds P [] k h = let no : ◌≡◌ {A = Option ℕ} None (Some k) = h in cc
found_holds P (i ∷ ks) k h = elim (cases_Bool (P i)) [
  | inl here ↦
      let e : ◌≡◌ {A = Option ℕ} (Some i) (Some k) = ap (λ b. cond b (Some i) (find P ks)) (sym here) ∙ h in
      let same : i ≡ k = cc in
      ap P (sym same) ∙ here
  | inr none ↦ found_holds P ks k (ap (λ b. cond b (Some i) (find P ks)) (sym none) ∙ h)
]

-- what is found is the least, since the numbers rise
found_least : (P : ℕ → Bool) (ks : List ℕ) (k : ℕ) → Rises ks → find P ks ≡ Some k → (j : ℕ) → 0 < times j ks → j < k → P j ≡ false
found_least P [] k r h j t l = absurd (omega arith)
found_least P (i ∷ ks) k r h j t l = elim (cases_Bool (P i)) [
  | inl here ↦
      let e : ◌≡◌ {A = Option ℕ} (Some i) (Some k) = ap (λ b. cond b (Some i) (find P ks)) (sym here) ∙ h in
      let same : i ≡ k = cc in
      elim (cases_Bool (i == j)) [
        | inl equal ↦ absurd (omega (arith, l, same, eqb-true i j equal))
        | inr other ↦
            let there : 0 < times j ks = omega (arith, t, times_other j i ks (λ e. eqb-false i j other (sym e))) in
            let above = all_at (λ n. i < n) ks j r.0 there in
            absurd (omega (arith, l, same, above))
      ]
  | inr none ↦ elim (cases_Bool (i == j)) [
    | inl equal ↦ ap P (sym (eqb-true i j equal)) ∙ none
    | inr other ↦ found_least P ks k r.1 (ap (λ b. cond b (Some i) (find P ks)) (sym none) ∙ h) j (omega (arith, t, times_other j i ks (λ e. eqb-false i j other (sym e)))) l
  ]
]

-- nothing is both true and false
not_both : {b : Bool} → b ≡ true → b ≡ false → ⊥
not_both {b} h k = let no : true ≡ false = sym h ∙ k in cc

module _ (es : List Program) (order : Relation) (rows : List (List Bool)) (matrix : IsMatrix es rows) (long : length es ≡ order.count) where
  -- what comes before what, as the order tells it
  abbrev Before : ℕ → ℕ → Type 0
  Before = Told (comes order)

  -- programs that the rows tell to be apart are
  apart_at : (k j : ℕ) → k < order.count → j < order.count → are_apart rows k j ≡ true → ApartAt es k j
  apart_at k j a b h =
      let both = and_parts (cell rows k j) (cell rows j k) h in
      record { left = (matrix.cells k j (omega (arith, a, long)) (omega (arith, b, long))).0 both.0; right = (matrix.cells j k (omega (arith, b, long)) (omega (arith, a, long))).0 both.1 }

  -- and programs that are apart are told to be
  at_apart : (k j : ℕ) → k < order.count → j < order.count → ApartAt es k j → are_apart rows k j ≡ true
  at_apart k j a b h =
      and_from (cell rows k j) (cell rows j k) ((matrix.cells k j (omega (arith, a, long)) (omega (arith, b, long))).1 h.left) ((matrix.cells j k (omega (arith, b, long)) (omega (arith, a, long))).1 h.right)

  -- what lets go doesn't come on the wrong side
  lets_no : (s a b c : Bool) → (not s && (a || b || c)) ≡ true → s ≡ true → ⊥
  lets_no true a b c h k = cc
  lets_no false a b c h k = cc

  -- what lets go, and is neither the same nor on the right side, is apart
  lets_apart : (s a b c : Bool) → (not s && (a || b || c)) ≡ true → a ≡ false → b ≡ false → c ≡ true
  lets_apart true a b c h k l = cc
  lets_apart false true b c h k l = cc
  lets_apart false false true c h k l = cc
  lets_apart false false false c h k l = h

  -- what isn't on the wrong side, and is apart where it isn't on the right one, lets go
  lets_from : (s a b c : Bool) → s ≡ false → (a ≡ false → b ≡ false → c ≡ true) → (not s && (a || b || c)) ≡ true
  lets_from true a b c h k = cc
  lets_from false true b c h k = refl
  lets_from false false true c h k = refl
  lets_from false false false c h k = k refl refl

  -- a truth value that isn't true is false
  by_test : (b : Bool) → (b ≡ true → ⊥) → b ≡ false
  by_test true h = absurd (h refl)
  by_test false h = refl

  module _ (ks : List ℕ) (rises : Rises ks) (below : AllByRecursion (λ j. j < order.count) ks) where
    -- a kept number is one of a program
    under : (j : ℕ) → 0 < times j ks → j < order.count
    under j h = all_at (λ j. j < order.count) ks j below h

    -- a program that is told to go last may
    last_is : (k : ℕ) → 0 < times k ks → may_last order rows ks k ≡ true → MayBeLast es Before ks k
    last_is k here h = record {
      once = once k ks rises here;
      none_after = λ j t b. lets_no (comes order k j) (j == k) (comes order j k) (are_apart rows k j) (all_true (lets_last order rows k) ks j h t) b;
      apart = λ j t other free. apart_at k j (under k here) (under j t)
          (lets_apart (comes order k j) (j == k) (comes order j k) (are_apart rows k j) (all_true (lets_last order rows k) ks j h t) (ne_eqb j k other) (by_test (comes order j k) free));
    }

    -- and one that may is told to
    is_last : (k : ℕ) → MayBeLast es Before ks k → may_last order rows ks k ≡ true
    is_last k may = true_all (lets_last order rows k) ks (λ j t.
        lets_from (comes order k j) (j == k) (comes order j k) (are_apart rows k j) (by_test (comes order k j) (may.none_after j t))
        (λ a b. at_apart k j (under k (omega (arith, may.once))) (under j t) (may.apart j t (eqb-false j k a) (λ c. not_both c b))))

    -- a program that is told to go first may
    first_is : (k : ℕ) → 0 < times k ks → may_first order rows ks k ≡ true → MayBeFirst es Before ks k
    first_is k here h = record {
      once = once k ks rises here;
      none_before = λ j t b. lets_no (comes order j k) (j == k) (comes order k j) (are_apart rows k j) (all_true (lets_first order rows k) ks j h t) b;
      apart = λ j t other free. apart_at k j (under k here) (under j t)
          (lets_apart (comes order j k) (j == k) (comes order k j) (are_apart rows k j) (all_true (lets_first order rows k) ks j h t) (ne_eqb j k other) (by_test (comes order k j) free));
    }

    -- and one that may is told to
    is_first : (k : ℕ) → MayBeFirst es Before ks k → may_first order rows ks k ≡ true
    is_first k may = true_all (lets_first order rows k) ks (λ j t.
        lets_from (comes order j k) (j == k) (comes order k j) (are_apart rows k j) (by_test (comes order j k) (may.none_before j t))
        (λ a b. at_apart k j (under k (omega (arith, may.once))) (under j t) (may.apart j t (eqb-false j k a) (λ c. not_both c b))))

    -- where nothing is found, none may go last
    never_last : find (may_last order rows ks) ks ≡ None → Never (MayBeLast es Before ks)
    never_last h k may = not_both (is_last k may) (found_none (may_last order rows ks) ks h k (omega (arith, may.once)))

    -- where nothing is found, none may go first
    never_first : find (may_first order rows ks) ks ≡ None → Never (MayBeFirst es Before ks)
    never_first h k may = not_both (is_first k may) (found_none (may_first order rows ks) ks h k (omega (arith, may.once)))

    -- what is found is the least that may go last
    least_last : (k : ℕ) → find (may_last order rows ks) ks ≡ Some k → IsLeast (MayBeLast es Before ks) k
    least_last k h = record {
      holds = last_is k (found_there (may_last order rows ks) ks k h) (found_holds (may_last order rows ks) ks k h);
      least = λ j l may. not_both (is_last j may) (found_least (may_last order rows ks) ks k rises h j (omega (arith, may.once)) l);
    }

    -- what is found is the least that may go first
    least_first : (k : ℕ) → find (may_first order rows ks) ks ≡ Some k → IsLeast (MayBeFirst es Before ks) k
    least_first k h = record {
      holds = first_is k (found_there (may_first order rows ks) ks k h) (found_holds (may_first order rows ks) ks k h);
      least = λ j l may. not_both (is_first j may) (found_least (may_first order rows ks) ks k rises h j (omega (arith, may.once)) l);
    }

  -- the moves that are found are those of the pruning
  pub finds_prunes : (moves : List Move) (ks kept : List ℕ) → Rises ks → AllByRecursion (λ j. j < order.count) ks → Finds order rows moves ks kept → Prunes es Before moves ks kept
  finds_prunes [] ks kept rises below h =
      let none = or_none (find (may_last order rows ks) ks) (find (may_first order rows ks) ks) (subst (λ l. next_move order rows l ≡ None) h.0 h.1) in
      (h.0, never_last ks rises below none.0, never_first ks rises below none.1)
  finds_prunes (ToFirst k ∷ moves) ks kept rises below h =
      let found = or_other (find (may_last order rows ks) ks) (find (may_first order rows ks) ks) k h.0 in (
        never_last ks rises below found.0,
        least_first ks rises below k found.1,
        finds_prunes moves (without k ks) kept (rises_without k ks rises) (without_keeps (λ j. j < order.count) k ks below) h.1,
      )
  finds_prunes (ToLast k ∷ moves) ks kept rises below h =
      let found = or_last (find (may_last order rows ks) ks) (find (may_first order rows ks) ks) k h.0 in (
        least_last ks rises below k found,
        finds_prunes moves (without k ks) kept (rises_without k ks rises) (without_keeps (λ j. j < order.count) k ks below) h.1,
      )

-- what went last, turned round, is what goes last in order
pub lates_reversed : (moves : List Move) → reverse (lates moves) ≡ lasts moves
lates_reversed [] = refl
lates_reversed (ToFirst k ∷ moves) = lates_reversed moves
lates_reversed (ToLast k ∷ moves) = reverse-append (k ∷ []) (lates moves) ∙ ap (λ l. l ++ k ∷ []) (lates_reversed moves)
