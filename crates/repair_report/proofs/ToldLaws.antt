-- From the answer to what is told of it.
use Rattle.std.proofs.Common.{◌≡◌, ◌≢◌, inl, inr, ℕ, ◌<◌, ◌^◌, ◌-◌, List, length, Option, Some, None, refl, subst, arith}
use Rattle.std.specs.List.{All}
use Rattle.fs_semantics.specs.FileTree.{Path}
use Rattle.fs_semantics.specs.Programs.{Program}
use Rattle.cnf.specs.Formulas.{Formula}
use Rattle.cnf.specs.declared.log.Step.{Step}
use Rattle.orders.specs.Relation.{Relation}
use Rattle.question_terms.specs.Terms.{budget_of}
use Rattle.question_terms.specs.declared.terms.Terms.{Terms}
use Rattle.given_verdict.specs.Limits.{HasFewPathsWith, IsLightWith}
use Rattle.verdict_report.specs.declared.report.Report.{Report}
use Rattle.repair.specs.Arrows.{IsBetweenFree, CanBeAdded}
use Rattle.repair.specs.Answers.{added_in}
use Rattle.repair.specs.declared.repaired.Repaired.{Repaired}
use Rattle.repair.specs.declared.repaired.Repaired.TheVariants as repaired
use Rattle.given_repair.specs.Repairs.{IsSpentWithFrom, IsRepairedFrom}
use Rattle.repair_report.specs.Told.{IsRepairTold}
use Rattle.repair_report.specs.Lines.{unrepaired_text}
use Rattle.repair_report.specs.Steps.{IsArrowWithin, AreTellable, IsReportOf}

-- where the budget isn't the greatest, a number was given
given_some : (given : Option ℕ) → budget_of given ≢ 2 ^ 64 - 1 → (c : ℕ) × (given ≡ Some c)
given_some None limited = absurd (limited refl)
given_some (Some c) limited = (c, refl)

-- arrows between free resources are between the resources that have names
within : (order : Relation) (n : ℕ) (arrows : List (ℕ × ℕ)) → n ≡ order.count → All (IsBetweenFree order) arrows → All (IsArrowWithin n) arrows
within order n arrows is all = λ k d h. let free = all k d h in let from = free.from in let to = free.to in (omega (arith, from, is), omega (arith, to, is))

module _ (es : List Program) (order : Relation) (terms : Terms) (notes : List ℕ) (names : List (List ℕ)) (budget : ℕ) (is : budget ≡ budget_of terms.conflicts) where
  -- the arrows of an answer are between the resources that have names
  pub tellable : (r : Repaired) → length names ≡ order.count → CanBeAdded order (added_in r) → AreTellable (length names) r
  tellable (repaired.Done added) long h = within order (length names) added long h.free
  tellable (repaired.Spent added cnf log) long h = tt

  -- whatever the answer is, what the report tells holds
  pub told_is : (r : Repaired) (report : Report) → HasFewPathsWith terms.limits terms.given es → IsLightWith terms.limits es → IsRepairedFrom terms.given es order (budget_of terms.conflicts) r → IsReportOf names (length es) notes budget r report
      → IsRepairTold terms notes names es order report
  told_is (repaired.Done added) report few light h shown =
      record { paths = few; weight = light; answer = inl (record { status = shown.0; arrows = added; repairs = h.repairs; needed = h.needed; right = h.right; nothing = h.nothing; text = shown.1 }) }
  told_is (repaired.Spent added cnf log) report few light h shown =
      let some = given_some terms.conflicts h.spent.spent.2.limited in
      record {
        paths = few;
        weight = light;
        answer = inr (record { status = shown.0; conflicts = some.0; limited = some.1; arrows = added; added = h.added; formula = cnf; steps = log.steps; spent = h.spent; text = subst (λ b. report.text ≡ unrepaired_text (length es) notes b) is shown.1 });
      }
