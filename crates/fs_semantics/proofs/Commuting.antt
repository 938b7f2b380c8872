-- Programs that commute: all orders have one outcome, and where each settles, a second run changes nothing.
use Rattle.std.proofs.Common.{◌≡◌, ℕ, zero, suc, true, false, cond, ◌==◌, nat_lt, ◌+◌, ◌<◌, ◌≤◌, List, [], ◌∷◌, ◌++◌, get_or, Some, None, refl, sym, ap, subst, ◌∙◌, arith, eqb-true, ltb-true, ltb-false}
use Rattle.std.specs.List.{AllByRecursion}
use Rattle.fs_semantics.specs.FileTree.{Tree, IsTree}
use Rattle.fs_semantics.specs.Programs.{Program, Id, Outcome, and_then, run}
use Rattle.fs_semantics.specs.Orders.{times, IsLinearExtension, outcome}
use Rattle.fs_semantics.specs.Changes.{IsProper, CommuteFrom, AllCommuteFrom, AllCommute, SettlesFrom, Settles}
use Rattle.fs_semantics.proofs.ConstructLaws.{split_then, keeps_tree}
use Rattle.fs_semantics.proofs.Permuted.{and_then_assoc, run_steps, CommutingSteps, same_runs}
use Rattle.fs_semantics.proofs.Counts.{times_itself}

-- first the one list of numbers, then the other
pub outcome-append : (es : List Program) (o p : List ℕ) (t : Tree) → outcome es (o ++ p) t ≡ and_then (outcome es o t) (outcome es p)
outcome-append es [] p t = refl
outcome-append es (i ∷ o) p t =
    ap (and_then (run (get_or es i Id) t)) (λ n u. outcome-append es o p u n)
    ∙ sym (and_then_assoc (run (get_or es i Id) t) (outcome es o) (outcome es p))

-- a run with nothing behind it is the run
then_same : (r : Outcome) → and_then r (λ t. Some t) ≡ r
then_same None = refl
then_same (Some t) = refl

-- each program commutes with the one that does nothing
commutes_id : (P : Tree → Type 0) (e : Program) → CommuteFrom P e Id
commutes_id P e t good = then_same (run e t)

-- what holds of all programs, and of the one that does nothing, holds of the one with a number
pub all_at : (Q : Program → Type 0) (es : List Program) → AllByRecursion Q es → Q Id → (i : ℕ) → Q (get_or es i Id)
all_at Q [] all id i = id
all_at Q (e ∷ es) all id zero = all.0
all_at Q (e ∷ es) all id (suc i) = all_at Q es all.1 id i

-- where each commutes with those after it, any two commute
all_commute : (P : Tree → Type 0) (es : List Program) → AllCommuteFrom P es → (i j : ℕ) → CommuteFrom P (get_or es i Id) (get_or es j Id)
all_commute P [] all i j t good = refl
all_commute P (e ∷ es) all zero zero t good = refl
all_commute P (e ∷ es) all zero (suc j) t good = all_at (CommuteFrom P e) es all.0 (commutes_id P e) j t good
all_commute P (e ∷ es) all (suc i) zero t good = sym (all_at (CommuteFrom P e) es all.0 (commutes_id P e) i t good)
all_commute P (e ∷ es) all (suc i) (suc j) t good = all_commute P es all.1 i j t good

-- the programs in an order are steps, one after the other
outcome_is : (es : List Program) (o : List ℕ) (t : Tree) → outcome es o t ≡ run_steps (λ i. run (get_or es i Id)) o t
outcome_is es [] t = refl
outcome_is es (i ∷ o) t = ap (and_then (run (get_or es i Id) t)) (λ n u. outcome_is es o u n)

-- no number past the last stands in a list of numbers below it
pub none_above : (n k : ℕ) (o : List ℕ) → AllByRecursion (λ i. i < n) o → n ≤ k → times k o ≡ 0
none_above n k [] all h = refl
none_above n k (i ∷ o) all h = elim (i == k) as (λ b. (i == k) ≡ b → cond b 1 0 + times k o ≡ 0) [
  | true ↦ λ e. let same : i ≡ k = eqb-true i k e in let low : i < n = all.0 in absurd (omega arith)
  | false ↦ λ e. omega (arith, none_above n k o all.1 h)
] refl

-- two lists that have each number below n once, and no other, have each number equally often
pub same_times_of : (n : ℕ) (o p : List ℕ) → AllByRecursion (λ i. i < n) o → ((k : ℕ) → k < n → times k o ≡ 1) → AllByRecursion (λ i. i < n) p → ((k : ℕ) → k < n → times k p ≡ 1) → (k : ℕ) → times k o ≡ times k p
same_times_of n o p below once below_too once_too k = elim (nat_lt k n) as (λ v. nat_lt k n ≡ v → times k o ≡ times k p) [
  | true ↦ λ e. once k (ltb-true k n e) ∙ sym (once_too k (ltb-true k n e))
  | false ↦ λ e. none_above n k o below (ltb-false k n e) ∙ sym (none_above n k p below_too (ltb-false k n e))
] refl

-- two allowed orders have each number equally often
pub same_times : (n : ℕ) (before : ℕ → ℕ → Type 0) (o p : List ℕ) → IsLinearExtension n before o → IsLinearExtension n before p → (k : ℕ) → times k o ≡ times k p
same_times n before o p a b = same_times_of n o p a.below a.once b.below b.once

-- programs that leave proper trees leave file trees
pub each_keeps_tree : (es : List Program) → AllByRecursion IsProper es → (i : ℕ) (t u : Tree) → IsTree t → run (get_or es i Id) t ≡ Some u → IsTree u
each_keeps_tree es proper i t u tree h = keeps_tree (get_or es i Id) t u (all_at IsProper es proper tt i) tree h

-- programs that make proper entries leave a file tree one
pub outcome_keeps_tree : (es : List Program) → AllByRecursion IsProper es → (o : List ℕ) (t u : Tree) → IsTree t → outcome es o t ≡ Some u → IsTree u
outcome_keeps_tree es proper [] t u tree h = let same : t ≡ u = cc in subst IsTree same tree
outcome_keeps_tree es proper (i ∷ o) t u tree h =
    let first = split_then (run (get_or es i Id) t) (outcome es o) u h in
    outcome_keeps_tree es proper o first.0 u (each_keeps_tree es proper i t first.0 tree first.1) first.2

-- each program leaves such a tree
abbrev pub KeepEach : (Tree → Type 0) → List Program → Type 0
KeepEach P es = (i : ℕ) (t u : Tree) → P t → run (get_or es i Id) t ≡ Some u → P u

module _ (P : Tree → Type 0) (es : List Program) (keep : KeepEach P es) (all : AllCommuteFrom P es) where
  -- the programs are steps that commute
  commuting : CommutingSteps P (λ i. run (get_or es i Id))
  commuting = record { keeps = keep; commute = all_commute P es all }

  -- orders that have each number equally often end alike
  pub alike_from : (o p : List ℕ) → ((k : ℕ) → times k o ≡ times k p) → (t : Tree) → P t → outcome es o t ≡ outcome es p t
  alike_from o p same t is = outcome_is es o t ∙ same_runs P (λ i. run (get_or es i Id)) commuting o p same t is ∙ sym (outcome_is es p t)

  -- what is settled stays so
  stays : (i : ℕ) (o : List ℕ) (t u : Tree) → P t → run (get_or es i Id) t ≡ Some t → outcome es o t ≡ Some u → run (get_or es i Id) u ≡ Some u
  stays i [] t u good h done = let same : t ≡ u = cc in subst (λ v. run (get_or es i Id) v ≡ Some v) same h
  stays i (j ∷ o) t u good h done =
      let first = split_then (run (get_or es j Id) t) (outcome es o) u done in
      let still : run (get_or es i Id) first.0 ≡ Some first.0 =
      sym (ap (λ r. and_then r (run (get_or es i Id))) first.1) ∙ all_commute P es all j i t good ∙ ap (λ r. and_then r (run (get_or es j Id))) h ∙ first.1 in
      stays i o first.0 u (keep j t first.0 good first.1) still first.2

  -- what settles and was run stays settled, whatever was run behind it
  settled : AllByRecursion (SettlesFrom P) es → (i : ℕ) (o : List ℕ) (t u : Tree) → P t → 0 < times i o → outcome es o t ≡ Some u → run (get_or es i Id) u ≡ Some u
  settled settle i [] t u good h done = absurd (omega arith)
  settled settle i (j ∷ o) t u good h done =
      let first = split_then (run (get_or es j Id) t) (outcome es o) u done in
      let next = keep j t first.0 good first.1 in
      elim (j == i) as (λ b. (j == i) ≡ b → 0 < cond b 1 0 + times i o → run (get_or es i Id) u ≡ Some u) [
        | true ↦ λ e k. let same : j ≡ i = eqb-true j i e in
            stays i o first.0 u next (all_at (SettlesFrom P) es settle (λ v w good done. refl) i t first.0 good (ap (λ n. run (get_or es n Id) t) (sym same) ∙ first.1)) first.2
        | false ↦ λ e k. settled settle i o first.0 u next (omega arith) first.2
      ] refl h

  -- programs that are all settled change nothing, in any order
  unchanged : (o : List ℕ) (u : Tree) → AllByRecursion (λ i. run (get_or es i Id) u ≡ Some u) o → outcome es o u ≡ Some u
  unchanged [] u same = refl
  unchanged (i ∷ o) u same = ap (λ r. and_then r (outcome es o)) same.0 ∙ unchanged o u same.1

  -- where each number of a list is settled, all of the list are
  each_settled : (p : List ℕ) (u : Tree) → ((i : ℕ) → 0 < times i p → run (get_or es i Id) u ≡ Some u) → AllByRecursion (λ i. run (get_or es i Id) u ≡ Some u) p
  each_settled [] u h = tt
  each_settled (i ∷ p) u h = (h i (omega (arith, times_itself i p)), each_settled p u (λ j k. h j (omega (arith, k))))

  -- a second run of numbers that the first one had changes nothing
  pub second_from : AllByRecursion (SettlesFrom P) es → (o p : List ℕ) → ((k : ℕ) → 0 < times k p → 0 < times k o) → (t u : Tree) → P t → outcome es o t ≡ Some u → outcome es p u ≡ Some u
  second_from settle o p within t u is done = unchanged p u (each_settled p u (λ i h. settled settle i o t u is (within i h) done))

-- the same of file trees
pub alike : (es : List Program) → AllByRecursion IsProper es → AllCommute es → (o p : List ℕ) → ((k : ℕ) → times k o ≡ times k p) → (t : Tree) → IsTree t → outcome es o t ≡ outcome es p t
alike es proper all = alike_from IsTree es (each_keeps_tree es proper) all

-- a second run over commuting programs that settle changes nothing
pub second : (es : List Program) → AllByRecursion IsProper es → AllCommute es → AllByRecursion Settles es → (o p : List ℕ) → ((k : ℕ) → 0 < times k p → 0 < times k o) → (t u : Tree) → IsTree t → outcome es o t ≡ Some u → outcome es p u ≡ Some u
second es proper all = second_from IsTree es (each_keeps_tree es proper) all
