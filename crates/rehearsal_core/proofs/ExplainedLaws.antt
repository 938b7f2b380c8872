-- What an explanation tells at each status.
use Rattle.std.proofs.Common.{◌≡◌, ◌<◌, ◌≤◌, inl, inr, ℕ, List, arith}
use Rattle.fs_semantics.specs.Programs.{Program}
use Rattle.orders.specs.Relation.{Relation}
use Rattle.question_terms.specs.declared.terms.Terms.{Terms}
use Rattle.verdict_report.specs.declared.report.Report.{Report}
use Rattle.explain_report.specs.Told.{ExplainsSure, ExplainsDifference, ExplainsChange, ExplainsSpent, Explains}
use Rattle.rehearsal_core.specs.Answers.{IsOfReport}

module _ (terms : Terms) (names : List (List ℕ)) (es : List Program) (order : Relation) (head : List ℕ) (report : Report) (answer : Explains terms names es order head report) where
  -- an explanation has a status from 0 to 3
  low : report.status ≤ 3
  low = elim answer [
    | inl sure ↦ omega (arith, sure.status)
    | inr (inl different) ↦ omega (arith, different.status)
    | inr (inr (inl changed)) ↦ omega (arith, changed.status)
    | inr (inr (inr spent)) ↦ omega (arith, spent.status)
  ]

  -- and so the status of a report
  pub few : IsOfReport report.status
  few = inl low

  -- no greater one is its status
  pub not_high : (n : ℕ) → 3 < n → report.status ≡ n → ⊥
  not_high n high is = omega (arith, low, high, is)

  -- at status 0 it explains that all is well
  pub at_zero : report.status ≡ 0 → ExplainsSure terms.given names es order head report
  at_zero same = elim answer [
    | inl sure ↦ sure
    | inr (inl different) ↦ absurd (omega (arith, same, different.status))
    | inr (inr (inl changed)) ↦ absurd (omega (arith, same, changed.status))
    | inr (inr (inr spent)) ↦ absurd (omega (arith, same, spent.status))
  ]

  -- at status 1 it explains that orders differ
  pub at_one : report.status ≡ 1 → ExplainsDifference terms.given names es order head report
  at_one same = elim answer [
    | inl sure ↦ absurd (omega (arith, same, sure.status))
    | inr (inl different) ↦ different
    | inr (inr (inl changed)) ↦ absurd (omega (arith, same, changed.status))
    | inr (inr (inr spent)) ↦ absurd (omega (arith, same, spent.status))
  ]

  -- at status 2 it explains that a second run changes something
  pub at_two : report.status ≡ 2 → ExplainsChange terms.given names es order head report
  at_two same = elim answer [
    | inl sure ↦ absurd (omega (arith, same, sure.status))
    | inr (inl different) ↦ absurd (omega (arith, same, different.status))
    | inr (inr (inl changed)) ↦ changed
    | inr (inr (inr spent)) ↦ absurd (omega (arith, same, spent.status))
  ]

  -- at status 3 it explains on what the conflicts were spent
  pub at_three : report.status ≡ 3 → ExplainsSpent terms es order head report
  at_three same = elim answer [
    | inl sure ↦ absurd (omega (arith, same, sure.status))
    | inr (inl different) ↦ absurd (omega (arith, same, different.status))
    | inr (inr (inl changed)) ↦ absurd (omega (arith, same, changed.status))
    | inr (inr (inr spent)) ↦ spent
  ]
