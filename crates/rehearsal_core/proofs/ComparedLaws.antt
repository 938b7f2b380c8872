-- What is told of two manifests, by its status.
use Rattle.std.proofs.Common.{◌≡◌, ◌⊎◌, inl, inr, ℕ, List, arith}
use Rattle.fs_semantics.specs.Programs.{Program}
use Rattle.orders.specs.Relation.{Relation}
use Rattle.question_terms.specs.declared.terms.Terms.{Terms}
use Rattle.verdict_report.specs.declared.report.Report.{Report}
use Rattle.equal_report.specs.Told.{OneDiffers, OneIsUnanswered, TellsEqual, TellsUnequal, TellsSpent, Tells, differs, unanswered, equal, unequal, spent}
use Rattle.rehearsal_core.specs.Answers.{IsOfReport}

module _ (terms : Terms) (notes other_notes : List ℕ) (names : List (List ℕ)) (es : List Program) (order : Relation) (others : List (List ℕ)) (fs : List Program) (other : Relation) (report : Report) where
  -- that one graph isn't deterministic is told with status 1
  one_differs : OneDiffers terms notes other_notes names es order others fs other report → report.status ≡ 1
  one_differs (inl d) = d.different.status
  one_differs (inr b) = b.behind.different.status

  -- that the conflicts were spent on one is told with status 3
  one_is_unanswered : OneIsUnanswered terms notes other_notes es order fs other report → report.status ≡ 3
  one_is_unanswered (inl u) = u.unanswered.status
  one_is_unanswered (inr b) = b.behind.unanswered.status

  -- what is told of two graphs has the status of a report
  pub few : Tells terms notes other_notes names es order others fs other report → IsOfReport report.status
  few (differs d) = let is = one_differs d in inl (omega (arith, is))
  few (unanswered u) = let is = one_is_unanswered u in inl (omega (arith, is))
  few (equal e) = let is = e.status in inl (omega (arith, is))
  few (unequal u) = inr (inr u.status)
  few (spent s) = let is = s.status in inl (omega (arith, is))

  -- at status 0 they are told to do the same
  pub at_zero : Tells terms notes other_notes names es order others fs other report → report.status ≡ 0 → TellsEqual terms notes other_notes es order fs other report
  at_zero (differs d) at = let is = one_differs d in absurd (omega (arith, at, is))
  at_zero (unanswered u) at = let is = one_is_unanswered u in absurd (omega (arith, at, is))
  at_zero (equal e) at = e
  at_zero (unequal u) at = let is = u.status in absurd (omega (arith, at, is))
  at_zero (spent s) at = let is = s.status in absurd (omega (arith, at, is))

  -- at status 1 one of them isn't deterministic
  pub at_one : Tells terms notes other_notes names es order others fs other report → report.status ≡ 1 → OneDiffers terms notes other_notes names es order others fs other report
  at_one (differs d) at = d
  at_one (unanswered u) at = let is = one_is_unanswered u in absurd (omega (arith, at, is))
  at_one (equal e) at = let is = e.status in absurd (omega (arith, at, is))
  at_one (unequal u) at = let is = u.status in absurd (omega (arith, at, is))
  at_one (spent s) at = let is = s.status in absurd (omega (arith, at, is))

  -- at status 3 the conflicts were spent, on one of them or on both
  pub at_three : Tells terms notes other_notes names es order others fs other report → report.status ≡ 3 → OneIsUnanswered terms notes other_notes es order fs other report ⊎ TellsSpent terms notes other_notes es order fs other report
  at_three (differs d) at = let is = one_differs d in absurd (omega (arith, at, is))
  at_three (unanswered u) at = inl u
  at_three (equal e) at = let is = e.status in absurd (omega (arith, at, is))
  at_three (unequal u) at = let is = u.status in absurd (omega (arith, at, is))
  at_three (spent s) at = inr s

  -- at status 10 they are told not to do the same
  pub at_ten : Tells terms notes other_notes names es order others fs other report → report.status ≡ 10 → TellsUnequal terms notes other_notes names es order others fs other report
  at_ten (differs d) at = let is = one_differs d in absurd (omega (arith, at, is))
  at_ten (unanswered u) at = let is = one_is_unanswered u in absurd (omega (arith, at, is))
  at_ten (equal e) at = let is = e.status in absurd (omega (arith, at, is))
  at_ten (unequal u) at = u
  at_ten (spent s) at = let is = s.status in absurd (omega (arith, at, is))

  -- status 2 isn't that of a comparison
  pub not_two : Tells terms notes other_notes names es order others fs other report → report.status ≡ 2 → ⊥
  not_two (differs d) at = let is = one_differs d in absurd (omega (arith, at, is))
  not_two (unanswered u) at = let is = one_is_unanswered u in absurd (omega (arith, at, is))
  not_two (equal e) at = let is = e.status in absurd (omega (arith, at, is))
  not_two (unequal u) at = let is = u.status in absurd (omega (arith, at, is))
  not_two (spent s) at = let is = s.status in absurd (omega (arith, at, is))

  -- and neither is status 9
  pub not_nine : Tells terms notes other_notes names es order others fs other report → report.status ≡ 9 → ⊥
  not_nine (differs d) at = let is = one_differs d in absurd (omega (arith, at, is))
  not_nine (unanswered u) at = let is = one_is_unanswered u in absurd (omega (arith, at, is))
  not_nine (equal e) at = let is = e.status in absurd (omega (arith, at, is))
  not_nine (unequal u) at = let is = u.status in absurd (omega (arith, at, is))
  not_nine (spent s) at = let is = s.status in absurd (omega (arith, at, is))
