-- What is told of an entry that is wanted at each status.
use Rattle.std.proofs.Common.{◌≡◌, ◌⊎◌, inl, inr, ℕ, List, arith}
use Rattle.fs_semantics.specs.Programs.{Program}
use Rattle.orders.specs.Relation.{Relation}
use Rattle.question_terms.specs.declared.terms.Terms.{Terms}
use Rattle.wanted_entry.specs.declared.wanted.Wanted.{Wanted}
use Rattle.verdict_report.specs.declared.report.Form.TheVariants as form
use Rattle.verdict_report.specs.declared.report.Report.{Report}
use Rattle.verdict_report.specs.Told.{IsDifferent, IsUnanswered}
use Rattle.entry_report.specs.Told.{TellsEnsured, TellsMissed, TellsSpent, IsEntryTold}

module _ (terms : Terms) (notes : List ℕ) (w : Wanted) (names : List (List ℕ)) (es : List Program) (order : Relation) (report : Report) (told : IsEntryTold terms notes w names es order report) where
  -- at status 0 each run that ends leaves the entry
  pub at_zero : report.status ≡ 0 → TellsEnsured terms notes w es order told.pruned report
  at_zero same = elim told.answer [
    | inl held ↦ held
    | inr (inl different) ↦ absurd (omega (arith, same, different.status))
    | inr (inr (inl missed)) ↦ absurd (omega (arith, same, missed.status))
    | inr (inr (inr (inl unanswered))) ↦ absurd (omega (arith, same, unanswered.status))
    | inr (inr (inr (inr spent))) ↦ absurd (omega (arith, same, spent.status))
  ]

  -- at status 1 orders differ
  pub at_one : report.status ≡ 1 → IsDifferent form.Lines terms notes names es order told.pruned report
  at_one same = elim told.answer [
    | inl held ↦ absurd (omega (arith, same, held.status))
    | inr (inl different) ↦ different
    | inr (inr (inl missed)) ↦ absurd (omega (arith, same, missed.status))
    | inr (inr (inr (inl unanswered))) ↦ absurd (omega (arith, same, unanswered.status))
    | inr (inr (inr (inr spent))) ↦ absurd (omega (arith, same, spent.status))
  ]

  -- status 2 is none of them
  pub not_two : report.status ≡ 2 → ⊥
  not_two same = elim told.answer [
    | inl held ↦ absurd (omega (arith, same, held.status))
    | inr (inl different) ↦ absurd (omega (arith, same, different.status))
    | inr (inr (inl missed)) ↦ absurd (omega (arith, same, missed.status))
    | inr (inr (inr (inl unanswered))) ↦ absurd (omega (arith, same, unanswered.status))
    | inr (inr (inr (inr spent))) ↦ absurd (omega (arith, same, spent.status))
  ]

  -- at status 3 the conflicts were spent, on whether the graph is deterministic or on a later question
  pub at_three : report.status ≡ 3 → IsUnanswered form.Lines terms notes es order told.pruned report ⊎ TellsSpent terms notes w es order told.pruned report
  at_three same = elim told.answer [
    | inl held ↦ absurd (omega (arith, same, held.status))
    | inr (inl different) ↦ absurd (omega (arith, same, different.status))
    | inr (inr (inl missed)) ↦ absurd (omega (arith, same, missed.status))
    | inr (inr (inr (inl unanswered))) ↦ inl unanswered
    | inr (inr (inr (inr spent))) ↦ inr spent
  ]

  -- at status 9 some run ends without the entry
  pub at_nine : report.status ≡ 9 → TellsMissed terms notes w names es order told.pruned report
  at_nine same = elim told.answer [
    | inl held ↦ absurd (omega (arith, same, held.status))
    | inr (inl different) ↦ absurd (omega (arith, same, different.status))
    | inr (inr (inl missed)) ↦ missed
    | inr (inr (inr (inl unanswered))) ↦ absurd (omega (arith, same, unanswered.status))
    | inr (inr (inr (inr spent))) ↦ absurd (omega (arith, same, spent.status))
  ]

  -- status 10 is none of them
  pub not_ten : report.status ≡ 10 → ⊥
  not_ten same = elim told.answer [
    | inl held ↦ absurd (omega (arith, same, held.status))
    | inr (inl different) ↦ absurd (omega (arith, same, different.status))
    | inr (inr (inl missed)) ↦ absurd (omega (arith, same, missed.status))
    | inr (inr (inr (inl unanswered))) ↦ absurd (omega (arith, same, unanswered.status))
    | inr (inr (inr (inr spent))) ↦ absurd (omega (arith, same, spent.status))
  ]
