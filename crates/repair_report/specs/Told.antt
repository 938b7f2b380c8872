-- What is told of a repair, and what holds where it is told. It is told of the file trees in which the given folders stand.
use Rattle.std.specs.Prelude.{◌≡◌, ◌≢◌, ◌⊎◌, ◌↔◌, ℕ, List, [], length, Some}
use Rattle.fs_semantics.specs.Programs.{Program}
use Rattle.given_hosts.specs.Given.{IsDeterministicFrom}
use Rattle.orders.specs.Relation.{Relation, Comes}
use Rattle.cnf.specs.Formulas.{Formula}
use Rattle.cnf.specs.declared.log.Step.{Step}
use Rattle.question_terms.specs.Terms.{budget_of}
use Rattle.question_terms.specs.declared.terms.Terms.{Terms}
use Rattle.verdict_report.specs.declared.report.Report.{Report}
use Rattle.given_verdict.specs.Limits.{HasFewPathsWith, IsLightWith}
use Rattle.repair.specs.Arrows.{CanBeAdded}
use Rattle.given_repair.specs.Repairs.{RepairsFrom, AreNeededFrom, PointRightFrom, IsSpentWithFrom}
use Rattle.repair_report.specs.Lines.{repaired_text, unrepaired_text}

-- Status 0. The arrows that are told can be added, and with them the graph is deterministic; without any one of them it isn't; they
-- point the way that succeeds; and there are none exactly where the graph is deterministic as it stands.
pub record TellsArrows (terms : Terms) (notes : List ℕ) (names : List (List ℕ)) (es : List Program) (order : Relation)
    (report : Report) : Type 0 where
  pub status : report.status ≡ 0
  pub arrows : List (ℕ × ℕ)
  pub repairs : RepairsFrom terms.given es order arrows
  pub needed : AreNeededFrom terms.given es order arrows
  pub right : arrows ≢ [] → PointRightFrom terms.given es order arrows
  pub nothing : (arrows ≡ []) ↔ IsDeterministicFrom terms.given es (Comes order)
  pub text : report.text ≡ repaired_text names (length es) notes arrows

-- Status 3. A number of conflicts is given, and a working log of just as many steps over a formula that states whether the graph
-- with some arrows is deterministic shows that they are spent.
pub record TellsSpent (terms : Terms) (notes : List ℕ) (es : List Program) (order : Relation) (report : Report) : Type 0 where
  pub status : report.status ≡ 3
  pub conflicts : ℕ
  pub limited : terms.conflicts ≡ Some conflicts
  pub arrows : List (ℕ × ℕ)
  pub added : CanBeAdded order arrows
  pub formula : Formula
  pub steps : List Step
  pub spent : IsSpentWithFrom terms.given es order (budget_of terms.conflicts) arrows formula steps
  pub text : report.text ≡ unrepaired_text (length es) notes (budget_of terms.conflicts)

-- What is told of programs and the order between them, which are within the limits: one of the two. These notes stand behind the
-- number of resources.
pub record IsRepairTold (terms : Terms) (notes : List ℕ) (names : List (List ℕ)) (es : List Program) (order : Relation)
    (report : Report) : Type 0 where
  pub paths : HasFewPathsWith terms.limits terms.given es
  pub weight : IsLightWith terms.limits es
  pub answer : TellsArrows terms notes names es order report ⊎ TellsSpent terms notes es order report
