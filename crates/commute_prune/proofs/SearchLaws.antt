-- How far the search for the next move has seen.
use Rattle.std.proofs.Common.{◌≡◌, ℕ, ◌+◌, ◌<◌, ◌≤◌, Bool, true, false, cond, not, ◌==◌, nat_lt, List, length, get_or, drop, replicate, Some, inl, inr, sym, ap, subst, ◌∙◌, arith, eqb-true, ltb-true, ltb-false}
use Rattle.std.specs.Prelude.{slice_set}
use Rattle.std.specs.List.{AllByRecursion, list_all, find}
use Rattle.std.proofs.lemmas.Bool.{cases_Bool, and_parts, and_from, eqb-false}
use Rattle.std.proofs.lemmas.List.{length-replicate, get_or-replicate, get_or_past, get_or-set_same, get_or-set_other, length-set, drop_more}
use Rattle.fs_semantics.specs.Orders.{times, up_from}
use Rattle.fs_semantics.proofs.Counts.{all_at}
use Rattle.orders.specs.Relation.{Relation}
use Rattle.commute_prune.specs.declared.search.End.TheVariants as end
use Rattle.commute_prune.specs.declared.search.Search.{Search}
use Rattle.sure_folders.specs.Pruning.{without}
use Rattle.commute_prune.specs.Steps.{lets}
use Rattle.commute_prune.specs.Search.{blocks, AreMarked, IsSeen, IsSearch, IsNothingSeen}
use Rattle.sure_folders.proofs.Places.{higher_none}
use Rattle.sure_folders.proofs.Lists.{none_left, others_left}
use Rattle.commute_prune.proofs.PrunedLaws.{all_true, true_all}
use Rattle.sure_folders.proofs.Pruned.{still_one}
use Rattle.fs_semantics.proofs.Ground.{once_up}

-- ---- nothing seen

-- at first all are kept, and all are marked
marked_at_first : (n : ℕ) → AreMarked (up_from 0 n) (replicate n true)
marked_at_first n j = elim (cases_Bool (nat_lt j n)) [
  | inl less ↦
      let h = ltb-true j n less in
      ((λ m. let once = once_up 0 n j (omega arith) (omega (arith, h)) in omega (arith, once)), λ t. get_or-replicate n j true false h)
  | inr more ↦
      let h = ltb-false j n more in
      let none = higher_none 0 n j (omega (arith, h)) in
      ((λ m. let no : true ≡ false = sym m ∙ get_or_past (replicate n true) j false (omega (arith, h, length-replicate n true)) in absurd cc), λ t. absurd (omega (arith, t, none)))
]

-- at first nothing is noted
none_noted : (n k : ℕ) → ◌≡◌ {A = ℕ} (get_or (replicate n 0) k 0) 0
none_noted n k = elim (cases_Bool (nat_lt k n)) [
  | inl less ↦ get_or-replicate n k 0 0 (ltb-true k n less)
  | inr more ↦ get_or_past (replicate n 0) k 0 (let h = ltb-false k n more in omega (arith, h, length-replicate {A = ℕ} n 0))
]

-- so nothing was passed over
unseen : (lets_go : ℕ → ℕ → Bool) (n : ℕ) (kept : List ℕ) → IsSeen lets_go n kept (replicate n 0)
unseen lets_go n kept = record {
  long = length-replicate {A = ℕ} n 0;
  few = λ k. let e = none_noted n k in omega (arith, e);
  passed = λ k j less there. let e = none_noted n k in absurd (omega (arith, e, less));
}

-- a search begins with all marked and nothing noted
pub search_starts : (order : Relation) (rows : List (List Bool)) (kept : List ℕ) (s : Search) → kept ≡ up_from 0 order.count → IsNothingSeen order.count s → IsSearch order rows kept s
search_starts order rows kept s all h = record {
  long = ap length h.stays ∙ length-replicate order.count true;
  marked = subst (λ m. AreMarked kept m) (sym h.stays) (subst (λ ks. AreMarked ks (replicate order.count true)) (sym all) (marked_at_first order.count));
  first = subst (λ m. IsSeen (lets end.First order rows) order.count kept m) (sym h.first) (unseen (lets end.First order rows) order.count kept);
  last = subst (λ m. IsSeen (lets end.Last order rows) order.count kept m) (sym h.last) (unseen (lets end.Last order rows) order.count kept);
}

-- ---- one is taken out

-- with its mark taken away the marks are those without it
marked_without : (kept : List ℕ) (stays : List Bool) (k : ℕ) → k < length stays → AreMarked kept stays → AreMarked (without k kept) (slice_set stays k false)
marked_without kept stays k within m j = elim (cases_Bool (j == k)) [
  | inl here ↦
      let same = eqb-true j k here in
      let gone = ap (λ i. times i (without k kept)) same ∙ none_left k kept in (
        (λ t. let no : true ≡ false = sym t ∙ ap (λ i. get_or (slice_set stays k false) i false) same ∙ get_or-set_same stays k false false within in absurd cc),
        λ t. absurd (omega (arith, t, gone)),
      )
  | inr other ↦
      let ne = eqb-false j k other in
      let at = get_or-set_other stays k j false false ne in
      let e = others_left j k kept ne in
      ((λ t. let there = (m j).0 (sym at ∙ t) in omega (arith, e, there)), λ t. at ∙ (m j).1 (omega (arith, e, t)))
]

-- what was passed over lets go still when one less is kept
seen_without : (lets_go : ℕ → ℕ → Bool) (n : ℕ) (kept seen : List ℕ) (x : ℕ) → IsSeen lets_go n kept seen → IsSeen lets_go n (without x kept) seen
seen_without lets_go n kept seen x h = record {
  long = h.long;
  few = h.few;
  passed = λ k j less there. h.passed k j less (still_one j x kept there);
}

-- the search goes on without a program that moved
pub search_without : (order : Relation) (rows : List (List Bool)) (kept : List ℕ) (k : ℕ) (s t : Search) → k < length s.stays.items
    → t.stays.items ≡ slice_set s.stays.items k false → t.first.items ≡ s.first.items → t.last.items ≡ s.last.items → IsSearch order rows kept s → IsSearch order rows (without k kept) t
search_without order rows kept k s t within stays first last h = record {
  long = ap length stays ∙ length-set s.stays.items k false ∙ h.long;
  marked = subst (λ m. AreMarked (without k kept) m) (sym stays) (marked_without kept s.stays.items k within h.marked);
  first = subst (λ m. IsSeen (lets end.First order rows) order.count (without k kept) m) (sym first) (seen_without (lets end.First order rows) order.count kept s.first.items k h.first);
  last = subst (λ m. IsSeen (lets end.Last order rows) order.count (without k kept) m) (sym last) (seen_without (lets end.Last order rows) order.count kept s.last.items k h.last);
}

-- ---- what stops a program

module _ (lets_go : ℕ → ℕ → Bool) (n : ℕ) (kept : List ℕ) (stays : List Bool) (marked : AreMarked kept stays) (k : ℕ) where
  -- none of those that were passed over stops it
  passes : (j : ℕ) → blocks lets_go stays k j ≡ false → 0 < times j kept → lets_go k j ≡ true
  passes j h there = elim (cases_Bool (lets_go k j)) [
    | inl goes ↦ goes
    | inr not_goes ↦ let no : true ≡ false = sym (and_from (get_or stays j false) (not (lets_go k j)) ((marked j).1 there) (ap not not_goes)) ∙ h in absurd cc
  ]

  module _ (seen : List ℕ) (at : ℕ) (h : IsSeen lets_go n kept seen) (within : k < n) (few : at ≤ n)
      (passed : (j : ℕ) → get_or seen k 0 ≤ j → j < at → blocks lets_go stays k j ≡ false) where
    -- all kept ones below the place that was come to let the program go
    now_seen : (j : ℕ) → j < at → 0 < times j kept → lets_go k j ≡ true
    now_seen j less there = elim (cases_Bool (nat_lt j (get_or seen k 0))) [
      | inl before ↦ h.passed k j (ltb-true j (get_or seen k 0) before) there
      | inr later ↦ passes j (passed j (let b = ltb-false j (get_or seen k 0) later in omega (arith, b)) less) there
    ]

    -- it may go where none of the kept ones stops it
    pub may_go : AllByRecursion (λ j. j < n) kept → at ≡ n → list_all (lets_go k) kept ≡ true
    may_go below all = true_all (lets_go k) kept (λ j there. now_seen j (let b = all_at (λ j. j < n) kept j below there in omega (arith, b, all)) there)

  -- and not where one does
  pub may_not : (at : ℕ) → blocks lets_go stays k at ≡ true → list_all (lets_go k) kept ≡ false
  may_not at h = elim (cases_Bool (list_all (lets_go k) kept)) [
    | inl goes ↦
        let parts = and_parts (get_or stays at false) (not (lets_go k at)) h in
        let no : true ≡ false = sym parts.1 ∙ ap not (all_true (lets_go k) kept at goes ((marked at).0 parts.0)) in absurd cc
    | inr stays_here ↦ stays_here
  ]

  -- so whether nothing stopped it tells whether it may
  pub told : (seen : List ℕ) (at : ℕ) (h : IsSeen lets_go n kept seen) → k < n → at ≤ n → ((j : ℕ) → get_or seen k 0 ≤ j → j < at → blocks lets_go stays k j ≡ false)
      → (at < n → blocks lets_go stays k at ≡ true) → AllByRecursion (λ j. j < n) kept → (at == n) ≡ list_all (lets_go k) kept
  told seen at h within few passed stops below = elim (cases_Bool (at == n)) [
    | inl all ↦ all ∙ sym (may_go seen at h within few passed below (eqb-true at n all))
    | inr stopped ↦ stopped ∙ sym (may_not at (stops (let ne = eqb-false at n stopped in omega (arith, few, ne))))
  ]

-- one that may not go is passed over
pub passed_over : (P : ℕ → Bool) (ks : List ℕ) (i : ℕ) → i < length ks → P (get_or ks i 0) ≡ false → find P (drop i ks) ≡ find P (drop (i + 1) ks)
passed_over P ks i h f = ap (find P) (drop_more ks i 0 h) ∙ ap (λ b. cond b (Some (get_or ks i 0)) (find P (drop (i + 1) ks))) f

-- and what holds of all from one on holds of all behind it
pub behind : (P : ℕ → Type 0) (ks : List ℕ) (i : ℕ) → i < length ks → AllByRecursion P (drop i ks) → AllByRecursion P (drop (i + 1) ks)
behind P ks i h all = (subst (AllByRecursion P) (drop_more ks i 0 h) all).1
