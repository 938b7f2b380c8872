-- What is told of a repair at each status.
use Rattle.std.proofs.Common.{◌≡◌, ◌<◌, inl, inr, ℕ, List, arith}
use Rattle.fs_semantics.specs.Programs.{Program}
use Rattle.orders.specs.Relation.{Relation}
use Rattle.question_terms.specs.declared.terms.Terms.{Terms}
use Rattle.verdict_report.specs.declared.report.Report.{Report}
use Rattle.repair_report.specs.Told.{TellsArrows, TellsSpent, IsRepairTold}

module _ (terms : Terms) (notes : List ℕ) (names : List (List ℕ)) (es : List Program) (order : Relation) (report : Report) (told : IsRepairTold terms notes names es order report) where
  -- at status 0 the arrows repair
  pub at_zero : report.status ≡ 0 → TellsArrows terms notes names es order report
  at_zero same = elim told.answer [
    | inl mended ↦ mended
    | inr spent ↦ absurd (omega (arith, same, spent.status))
  ]

  -- at status 3 the conflicts were spent
  pub at_three : report.status ≡ 3 → TellsSpent terms notes es order report
  at_three same = elim told.answer [
    | inl mended ↦ absurd (omega (arith, same, mended.status))
    | inr spent ↦ spent
  ]

  -- no status between these two is one of a repair
  pub not_between : (n : ℕ) → 0 < n → n < 3 → report.status ≡ n → ⊥
  not_between n above below is = elim told.answer [
    | inl mended ↦ omega (arith, is, above, mended.status)
    | inr spent ↦ omega (arith, is, below, spent.status)
  ]

  -- and no greater one
  pub not_high : (n : ℕ) → 3 < n → report.status ≡ n → ⊥
  not_high n high is = elim told.answer [
    | inl mended ↦ omega (arith, is, high, mended.status)
    | inr spent ↦ omega (arith, is, high, spent.status)
  ]
