-- Orders of chosen programs, by their numbers among all and by their places among the chosen ones.
use Rattle.std.proofs.Common.{◌≡◌, ℕ, zero, suc, true, false, cond, ◌==◌, nat_lt, ◌+◌, ◌<◌, ◌≤◌, List, [], ◌∷◌, map, length, get_or, refl, sym, ap, subst, subst₂, ◌∙◌, arith, eqb-true, eq-eqb, ltb-true, ltb-false}
use Rattle.std.proofs.lemmas.Bool.{eqb-false, ne_eqb}
use Rattle.std.specs.List.{AllByRecursion}
use Rattle.fs_semantics.specs.FileTree.{Tree}
use Rattle.fs_semantics.specs.Programs.{Program, Id, and_then, run}
use Rattle.fs_semantics.specs.Orders.{NoneAhead, times, up_from, outcome, IsLinearExtension}
use Rattle.fs_semantics.proofs.Counts.{times_itself, times_other, all_from}
use Rattle.sure_folders.specs.Pruning.{without, IsOrderOf, chosen, between}
use Rattle.sure_folders.proofs.Lists.{none_left, others_left}
use Rattle.fs_semantics.proofs.Commuting.{none_above}
use Rattle.fs_semantics.proofs.Ground.{none_before, once_up as up_once}

-- equations that follow from one another are told alike
same_test : (a b c d : ℕ) → (a ≡ b → c ≡ d) → (c ≡ d → a ≡ b) → (a == b) ≡ (c == d)
same_test a b c d h k = elim (a == b) as (λ x. (a == b) ≡ x → x ≡ (c == d)) [
  | true ↦ λ e. sym (eq-eqb c d (h (eqb-true a b e)))
  | false ↦ λ e. sym (ne_eqb c d (λ f. eqb-false a b e (k f)))
] refl

-- ---- places in a list

-- how many numbers stand ahead of this one
pub place : ℕ → List ℕ → ℕ
place k [] = zero
place k (j ∷ ks) = cond (j == k) zero (suc (place k ks))

-- at the place of a number it stands
place_at : (k : ℕ) (ks : List ℕ) → 0 < times k ks → get_or ks (place k ks) 0 ≡ k
unfolding place
place_at k [] h = absurd (omega arith)
place_at k (j ∷ ks) h = elim (j == k) as (λ b. (j == k) ≡ b → 0 < cond b 1 0 + times k ks → get_or (j ∷ ks) (cond b zero (suc (place k ks))) 0 ≡ k) [
  | true ↦ λ e h. eqb-true j k e
  | false ↦ λ e h. place_at k ks (omega arith)
] refl h

-- the place of a number is within the list
place_below : (k : ℕ) (ks : List ℕ) → 0 < times k ks → place k ks < length ks
unfolding place
place_below k [] h = absurd (omega arith)
place_below k (j ∷ ks) h = elim (j == k) as (λ b. 0 < cond b 1 0 + times k ks → cond b zero (suc (place k ks)) < length (j ∷ ks)) [
  | true ↦ λ h. omega arith
  | false ↦ λ h. omega (arith, place_below k ks (omega arith))
] h

-- what stands at a place stands in the list
pub counted : (ks : List ℕ) (i : ℕ) → i < length ks → 0 < times (get_or ks i 0) ks
counted [] i h = absurd (omega arith)
counted (j ∷ ks) zero h = omega (arith, times_itself j ks)
counted (j ∷ ks) (suc i) h = omega (arith, counted ks i (omega arith))

-- no number stands in the list twice
abbrev pub AtMostOnce : List ℕ → Type 0
AtMostOnce ks = (j : ℕ) → times j ks ≤ 1

-- where no number stands twice, the place of what stands at one is that place
place_of : (ks : List ℕ) (i : ℕ) → AtMostOnce ks → i < length ks → place (get_or ks i 0) ks ≡ i
unfolding place
place_of [] i once h = absurd (omega arith)
place_of (j ∷ ks) zero once h = ap (λ b. cond b zero (suc (place j ks))) (eq-eqb j j refl)
place_of (j ∷ ks) (suc i) once h =
    let k = get_or ks i 0 in
    let there = counted ks i (omega arith) in
    elim (j == k) as (λ b. (j == k) ≡ b → times k (j ∷ ks) ≡ cond b 1 0 + times k ks → cond b zero (suc (place k ks)) ≡ suc i) [
      | true ↦ λ e t. absurd (omega (arith, t, once k, there))
      | false ↦ λ e t. ap suc (place_of ks i (λ m. omega (arith, once m)) (omega arith))
    ] refl refl

-- what is counted in place and in number
places_counted : (ks o : List ℕ) (i : ℕ) → AtMostOnce ks → AllByRecursion (λ j. 0 < times j ks) o → i < length ks → times i (map (λ k. place k ks) o) ≡ times (get_or ks i 0) o
places_counted ks [] i once all h = refl
places_counted ks (j ∷ o) i once all h =
    ap (λ b. cond b 1 0 + times i (map (λ k. place k ks) o)) (same_test (place j ks) i j (get_or ks i 0)
    (λ e. sym (place_at j ks all.0) ∙ ap (λ n. get_or ks n 0) e) (λ e. ap (λ n. place n ks) e ∙ place_of ks i once h))
    ∙ ap (λ n. cond (j == get_or ks i 0) 1 0 + n) (places_counted ks o i once all.1 h)

-- a number stands among those at some places as often as its place does
numbers_counted : (ks o : List ℕ) (k : ℕ) → AtMostOnce ks → AllByRecursion (λ i. i < length ks) o → 0 < times k ks → times k (map (λ i. get_or ks i 0) o) ≡ times (place k ks) o
numbers_counted ks [] k once all h = refl
numbers_counted ks (i ∷ o) k once all h =
    ap (λ b. cond b 1 0 + times k (map (λ i. get_or ks i 0) o)) (same_test (get_or ks i 0) k i (place k ks)
    (λ e. sym (place_of ks i once all.0) ∙ ap (λ n. place n ks) e) (λ e. ap (λ n. get_or ks n 0) e ∙ place_at k ks h))
    ∙ ap (λ n. cond (i == place k ks) 1 0 + n) (numbers_counted ks o k once all.1 h)

-- a number that isn't in the list stands at no place
none_counted : (ks o : List ℕ) (k : ℕ) → AllByRecursion (λ i. i < length ks) o → times k ks ≡ 0 → times k (map (λ i. get_or ks i 0) o) ≡ 0
none_counted ks [] k all h = refl
none_counted ks (i ∷ o) k all h =
    times_other k (get_or ks i 0) (map (λ i. get_or ks i 0) o) (λ f. let e = sym f in let there = counted ks i all.0 in omega (arith, there, h, ap (λ n. times n ks) e))
    ∙ none_counted ks o k all.1 h

-- there are as many images as numbers
length-numbers : (f : ℕ → Program) (ks : List ℕ) → length (map f ks) ≡ length ks
length-numbers f [] = refl
length-numbers f (k ∷ ks) = ap suc (length-numbers f ks)

-- the chosen program at a place is that of the number there
pub program_at : (es : List Program) (ks : List ℕ) (i : ℕ) → i < length ks → get_or (chosen es ks) i Id ≡ get_or es (get_or ks i 0) Id
program_at es [] i h = absurd (omega arith)
program_at es (k ∷ ks) zero h = refl
program_at es (k ∷ ks) (suc i) h = program_at es ks i (omega arith)

-- the chosen programs, by places, end as all programs do, by numbers
outcome_chosen : (es : List Program) (ks o : List ℕ) → AllByRecursion (λ i. i < length ks) o → (t : Tree) → outcome (chosen es ks) o t ≡ outcome es (map (λ i. get_or ks i 0) o) t
outcome_chosen es ks [] all t = refl
outcome_chosen es ks (i ∷ o) all t = (λ n. and_then (run (program_at es ks i all.0 n) t) (λ u. outcome_chosen es ks o all.1 u n))

-- the numbers at the places of some numbers are these
pub back_and_forth : (ks o : List ℕ) → AllByRecursion (λ j. 0 < times j ks) o → map (λ i. get_or ks i 0) (map (λ k. place k ks) o) ≡ o
back_and_forth ks [] all = refl
back_and_forth ks (j ∷ o) all = (λ n. place_at j ks all.0 n ∷ back_and_forth ks o all.1 n)

-- the places of numbers of the list are within it
all_places : (ks o : List ℕ) → AllByRecursion (λ j. 0 < times j ks) o → AllByRecursion (λ i. i < length ks) (map (λ k. place k ks) o)
all_places ks [] all = tt
all_places ks (j ∷ o) all = (place_below j ks all.0, all_places ks o all.1)

module _ (before : ℕ → ℕ → Type 0) where
  -- by places none stands ahead of one that comes before it, where by numbers none does
  ahead : (ks o : List ℕ) (b : ℕ) → 0 < times b ks → AllByRecursion (λ j. 0 < times j ks) o → AllByRecursion (λ a. before a b → ⊥) o
      → AllByRecursion (λ a. between before ks a (place b ks) → ⊥) (map (λ k. place k ks) o)
  ahead ks [] b h all none = tt
  ahead ks (j ∷ o) b h all none = ((λ k. none.0 (subst₂ before (place_at j ks all.0) (place_at b ks h) k)), ahead ks o b h all.1 none.1)

  -- an order by numbers that keeps what comes before what does so by places
  places_ahead : (ks o : List ℕ) → AllByRecursion (λ j. 0 < times j ks) o → NoneAhead before o → NoneAhead (between before ks) (map (λ k. place k ks) o)
  places_ahead ks [] all h = tt
  places_ahead ks (j ∷ o) all h = (ahead ks o j all.0 all.1 h.0, places_ahead ks o all.1 h.1)

  -- by numbers none stands ahead of one that comes before it, where by places none does
  numbers_ahead_of : (ks o : List ℕ) (b : ℕ) → AllByRecursion (λ a. between before ks a b → ⊥) o → AllByRecursion (λ a. before a (get_or ks b 0) → ⊥) (map (λ i. get_or ks i 0) o)
  numbers_ahead_of ks [] b h = tt
  numbers_ahead_of ks (a ∷ o) b h = (h.0, numbers_ahead_of ks o b h.1)

  -- an order by places that keeps what comes before what does so by numbers
  numbers_ahead : (ks o : List ℕ) → NoneAhead (between before ks) o → NoneAhead before (map (λ i. get_or ks i 0) o)
  numbers_ahead ks [] h = tt
  numbers_ahead ks (b ∷ o) h = (numbers_ahead_of ks o b h.0, numbers_ahead ks o h.1)

  -- an order of the kept ones among themselves
  pub as_places : (es : List Program) (ks o : List ℕ) → AtMostOnce ks → IsOrderOf before ks o → IsLinearExtension (length (chosen es ks)) (between before ks) (map (λ k. place k ks) o)
  as_places es ks o once order =
      let all = all_from (λ j. 0 < times j ks) o (λ j h. omega (arith, h, order.same j)) in
      let size = length-numbers (λ k. get_or es k Id) ks in
      record {
        below = subst (λ n. AllByRecursion (λ i. i < n) (map (λ k. place k ks) o)) (sym size) (all_places ks o all);
        once = λ i h.
            let here : i < length ks = omega (arith, h, size) in
            omega (arith, places_counted ks o i once all here, order.same (get_or ks i 0), once (get_or ks i 0), counted ks i here);
        kept = places_ahead ks o all order.kept;
      }

  -- an allowed order of the chosen programs is, by numbers, an order of these
  pub as_numbers : (es : List Program) (ks o : List ℕ) → AtMostOnce ks → IsLinearExtension (length (chosen es ks)) (between before ks) o → IsOrderOf before ks (map (λ i. get_or ks i 0) o)
  as_numbers es ks o once order =
      let size = length-numbers (λ k. get_or es k Id) ks in
      let below = subst (λ n. AllByRecursion (λ i. i < n) o) size order.below in
      record {
        same = λ k. elim (nat_lt 0 (times k ks)) as (λ b. nat_lt 0 (times k ks) ≡ b → times k (map (λ i. get_or ks i 0) o) ≡ times k ks) [
          | true ↦ λ e.
              let there = ltb-true 0 (times k ks) e in
              omega (arith, numbers_counted ks o k once below there, order.once (place k ks) (omega (arith, size, place_below k ks there)), once k, there)
          | false ↦ λ e. let gone : times k ks ≡ 0 = omega (arith, ltb-false 0 (times k ks) e) in none_counted ks o k below gone ∙ sym gone
        ] refl;
        kept = numbers_ahead ks o order.kept;
      }

  -- the chosen programs, by the places of some numbers, end as all programs do, by these numbers
  pub replaced : (es : List Program) (ks o : List ℕ) → IsOrderOf before ks o → (t : Tree) → outcome (chosen es ks) (map (λ k. place k ks) o) t ≡ outcome es o t
  replaced es ks o a t =
      let all = all_from (λ j. 0 < times j ks) o (λ j h. omega (arith, h, a.same j)) in
      outcome_chosen es ks (map (λ k. place k ks) o) (all_places ks o all) t ∙ ap (λ r. outcome es r t) (back_and_forth ks o all)

-- ---- all numbers

-- and no greater one does
pub higher_none : (k n j : ℕ) → k + n ≤ j → times j (up_from k n) ≡ 0
higher_none k zero j h = refl
higher_none k (suc n) j h = times_other j k (up_from (suc k) n) (λ e. omega arith) ∙ higher_none (suc k) n j (omega arith)

module _ (n : ℕ) (before : ℕ → ℕ → Type 0) where
  -- an allowed order is one of all numbers
  pub order_of_all : (o : List ℕ) → IsLinearExtension n before o → IsOrderOf before (up_from 0 n) o
  order_of_all o a = record {
    same = λ k. elim (nat_lt k n) as (λ b. nat_lt k n ≡ b → times k o ≡ times k (up_from 0 n)) [
      | true ↦ λ e. a.once k (ltb-true k n e) ∙ sym (up_once 0 n k (omega arith) (omega (arith, ltb-true k n e)))
      | false ↦ λ e. none_above n k o a.below (ltb-false k n e) ∙ sym (higher_none 0 n k (omega (arith, ltb-false k n e)))
    ] refl;
    kept = a.kept;
  }

  -- and an order of all numbers is allowed
  pub all_in_order : (o : List ℕ) → IsOrderOf before (up_from 0 n) o → IsLinearExtension n before o
  all_in_order o a = record {
    below = all_from (λ k. k < n) o (λ k h. elim (nat_lt k n) as (λ b. nat_lt k n ≡ b → k < n) [
      | true ↦ λ e. ltb-true k n e
      | false ↦ λ e. absurd (omega (arith, h, a.same k, higher_none 0 n k (omega (arith, ltb-false k n e))))
    ] refl);
    once = λ k h. a.same k ∙ up_once 0 n k (omega arith) (omega arith);
    kept = a.kept;
  }

-- there are so many numbers from one on
pub length-up : (k n : ℕ) → length (up_from k n) ≡ n
length-up k zero = refl
length-up k (suc n) = ap suc (length-up (suc k) n)

-- and none of them twice
pub once_up : (n : ℕ) → AtMostOnce (up_from 0 n)
once_up n j = elim (nat_lt j n) as (λ b. nat_lt j n ≡ b → times j (up_from 0 n) ≤ 1) [
  | true ↦ λ e. omega (arith, up_once 0 n j (omega arith) (omega (arith, ltb-true j n e)))
  | false ↦ λ e. omega (arith, higher_none 0 n j (omega (arith, ltb-false j n e)))
] refl

-- where no number stands twice, none does without one of them
pub fewer : (k : ℕ) (ks : List ℕ) → AtMostOnce ks → AtMostOnce (without k ks)
fewer k ks once j = elim (j == k) as (λ b. (j == k) ≡ b → times j (without k ks) ≤ 1) [
  | true ↦ λ e. omega (arith, none_left k ks, ap (λ i. times i (without k ks)) (eqb-true j k e))
  | false ↦ λ e. omega (arith, others_left j k ks (eqb-false j k e), once j)
] refl
