-- What a verdict tells at each status.
use Rattle.std.proofs.Common.{◌≡◌, ◌<◌, ◌≤◌, inl, inr, ℕ, List, arith}
use Rattle.fs_semantics.specs.Programs.{Program}
use Rattle.orders.specs.Relation.{Relation}
use Rattle.question_terms.specs.declared.terms.Terms.{Terms}
use Rattle.verdict_report.specs.declared.report.Form.{Form}
use Rattle.verdict_report.specs.declared.report.Report.{Report}
use Rattle.verdict_report.specs.Told.{IsSure, IsDifferent, IsChanged, IsUnanswered, IsTold}

module _ (f : Form) (terms : Terms) (notes : List ℕ) (names : List (List ℕ)) (es : List Program) (order : Relation) (report : Report) (told : IsTold f terms notes names es order report) where
  -- a verdict has a status from 0 to 3
  pub low : report.status ≤ 3
  low = elim told.answer [
    | inl sure ↦ omega (arith, sure.status)
    | inr (inl different) ↦ omega (arith, different.status)
    | inr (inr (inl changed)) ↦ omega (arith, changed.status)
    | inr (inr (inr spent)) ↦ omega (arith, spent.status)
  ]

  -- no greater one is its status
  pub not_high : (n : ℕ) → 3 < n → report.status ≡ n → ⊥
  not_high n high is = omega (arith, low, high, is)

  -- at status 0 all is well
  pub at_zero : report.status ≡ 0 → IsSure f terms notes es order told.pruned report
  at_zero same = elim told.answer [
    | inl sure ↦ sure
    | inr (inl different) ↦ absurd (omega (arith, same, different.status))
    | inr (inr (inl changed)) ↦ absurd (omega (arith, same, changed.status))
    | inr (inr (inr spent)) ↦ absurd (omega (arith, same, spent.status))
  ]

  -- at status 1 orders differ
  pub at_one : report.status ≡ 1 → IsDifferent f terms notes names es order told.pruned report
  at_one same = elim told.answer [
    | inl sure ↦ absurd (omega (arith, same, sure.status))
    | inr (inl different) ↦ different
    | inr (inr (inl changed)) ↦ absurd (omega (arith, same, changed.status))
    | inr (inr (inr spent)) ↦ absurd (omega (arith, same, spent.status))
  ]

  -- at status 2 a second run changes something
  pub at_two : report.status ≡ 2 → IsChanged f terms notes names es order told.pruned report
  at_two same = elim told.answer [
    | inl sure ↦ absurd (omega (arith, same, sure.status))
    | inr (inl different) ↦ absurd (omega (arith, same, different.status))
    | inr (inr (inl changed)) ↦ changed
    | inr (inr (inr spent)) ↦ absurd (omega (arith, same, spent.status))
  ]

  -- at status 3 the conflicts were spent
  pub at_three : report.status ≡ 3 → IsUnanswered f terms notes es order told.pruned report
  at_three same = elim told.answer [
    | inl sure ↦ absurd (omega (arith, same, sure.status))
    | inr (inl different) ↦ absurd (omega (arith, same, different.status))
    | inr (inr (inl changed)) ↦ absurd (omega (arith, same, changed.status))
    | inr (inr (inr spent)) ↦ spent
  ]
