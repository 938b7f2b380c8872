-- What is told of an entry that is wanted, and what holds where it is told. It is told of the file trees in which the given folders
-- stand.
use Rattle.std.specs.Prelude.{◌≡◌, ◌⊎◌, ℕ, List, length, Some}
use Rattle.fs_semantics.specs.FileTree.{Path, Tree}
use Rattle.fs_semantics.specs.Programs.{Program}
use Rattle.given_hosts.specs.Given.{IsDeterministicFrom, SucceedsFrom}
use Rattle.orders.specs.Relation.{Relation, Comes}
use Rattle.question_terms.specs.Terms.{budget_of}
use Rattle.question_terms.specs.declared.terms.Terms.{Terms}
use Rattle.cnf.specs.Formulas.{Formula}
use Rattle.cnf.specs.declared.log.Step.{Step}
use Rattle.determinism.specs.First.{IsPrunedCount}
use Rattle.given_verdict.specs.Limits.{HasFewPathsWith, IsLightWith}
use Rattle.verdict_report.specs.declared.report.Form.TheVariants as form
use Rattle.verdict_report.specs.declared.report.Report.{Report}
use Rattle.verdict_report.specs.Lines.{succeeds_line, fails_line}
use Rattle.verdict_report.specs.Told.{IsDifferent, IsUnanswered}
use Rattle.wanted_entry.specs.declared.wanted.Wanted.{Wanted}
use Rattle.ensured_entry.specs.declared.ensured.Late.{Late}
use Rattle.given_entry.specs.Sizes.{HasFewPathsProbed}
use Rattle.given_entry.specs.Questions.{EnsuresFrom, EndsWithoutFrom}
use Rattle.given_entry.specs.Answers.{IsSpentOnFrom, IsKnownBeforeFrom}
use Rattle.entry_report.specs.Lines.{ensured_text, missed_text, spent_late_text}

-- the last line: some such tree has a run without error, or none has
abbrev pub IsEnding : List Path → List Program → Relation → List ℕ → Type 0
IsEnding given es order last = ((last ≡ succeeds_line) × SucceedsFrom given es (Comes order))
    ⊎ ((last ≡ fails_line) × (SucceedsFrom given es (Comes order) → ⊥))

-- Status 0. From every file tree in which the given folders stand all allowed orders end in one same tree or all in error, and each
-- that ends leaves the entry.
pub record TellsEnsured (terms : Terms) (notes : List ℕ) (w : Wanted) (es : List Program) (order : Relation) (k : ℕ)
    (report : Report) : Type 0 where
  pub status : report.status ≡ 0
  pub deterministic : IsDeterministicFrom terms.given es (Comes order)
  pub ensures : EnsuresFrom terms.given es (Comes order) w
  pub last : List ℕ
  pub ending : IsEnding terms.given es order last
  pub text : report.text ≡ ensured_text (length es) notes k last

-- Status 9. From every file tree in which the given folders stand all allowed orders end alike; but from the tree that is told, which
-- is such a one, this allowed order ends in a tree, which is told, without the entry.
pub record TellsMissed (terms : Terms) (notes : List ℕ) (w : Wanted) (names : List (List ℕ)) (es : List Program)
    (order : Relation) (k : ℕ) (report : Report) : Type 0 where
  pub status : report.status ≡ 9
  pub deterministic : IsDeterministicFrom terms.given es (Comes order)
  pub tree : Tree
  pub turns : List ℕ
  pub without : EndsWithoutFrom terms.given es (Comes order) w tree turns
  pub text : report.text ≡ missed_text names es notes k tree turns

-- Status 3, behind `deterministic`. A number of conflicts is given, and a working log of just as many steps over a formula that
-- states the question shows that they are spent. The lines ahead are true.
pub record TellsSpent (terms : Terms) (notes : List ℕ) (w : Wanted) (es : List Program) (order : Relation) (k : ℕ)
    (report : Report) : Type 0 where
  pub status : report.status ≡ 3
  pub deterministic : IsDeterministicFrom terms.given es (Comes order)
  pub conflicts : ℕ
  pub limited : terms.conflicts ≡ Some conflicts
  pub asked : Late
  pub formula : Formula
  pub steps : List Step
  pub spent : IsSpentOnFrom terms.given es order w (budget_of terms.conflicts) asked formula steps
  pub known : IsKnownBeforeFrom terms.given es order w asked
  pub text : report.text ≡ spent_late_text (length es) notes k asked (budget_of terms.conflicts)

-- What is told of programs in an order and an entry that is wanted, which are within the limits: how many pruning leaves aside, and
-- one of the five; two of them are those of a verdict. These notes stand behind the number of resources.
pub record IsEntryTold (terms : Terms) (notes : List ℕ) (w : Wanted) (names : List (List ℕ)) (es : List Program)
    (order : Relation) (report : Report) : Type 0 where
  pub paths : HasFewPathsWith terms.limits terms.given es
  pub probed : HasFewPathsProbed terms.limits terms.given es w
  pub weight : IsLightWith terms.limits es
  pub pruned : ℕ
  pub count : IsPrunedCount es (Comes order) pruned
  pub answer : TellsEnsured terms notes w es order pruned report
      ⊎ (IsDifferent form.Lines terms notes names es order pruned report
      ⊎ (TellsMissed terms notes w names es order pruned report
      ⊎ (IsUnanswered form.Lines terms notes es order pruned report
      ⊎ TellsSpent terms notes w es order pruned report)))
