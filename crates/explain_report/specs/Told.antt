-- What is explained of programs and the order between them, and what holds where it is told. It is told of the file trees in which the
-- given folders stand: those are the trees in which a first run begins.
use Rattle.std.specs.Prelude.{◌≡◌, ◌⊎◌, ℕ, List, [], ◌++◌, length, Some}
use Rattle.fs_semantics.specs.FileTree.{Path}
use Rattle.fs_semantics.specs.Programs.{Program}
use Rattle.given_hosts.specs.Given.{IsDeterministicFrom, IsIdempotentFrom, SucceedsFrom}
use Rattle.orders.specs.Relation.{Relation, Comes}
use Rattle.question_terms.specs.Terms.{budget_of}
use Rattle.question_terms.specs.declared.terms.Terms.{Terms}
use Rattle.cnf.specs.Formulas.{Formula}
use Rattle.cnf.specs.declared.log.Step.{Step}
use Rattle.order_encode.specs.Witnesses.{IsFirstExtension}
use Rattle.determinism.specs.First.{IsPrunedCount}
use Rattle.verdict.specs.declared.verdicts.Asked.{Asked}
use Rattle.given_verdict.specs.Limits.{HasFewPathsWith, IsLightWith}
use Rattle.given_verdict.specs.Verdicts.{IsSpentOnFrom, IsKnownBeforeFrom}
use Rattle.verdict_report.specs.declared.report.Report.{Report}
use Rattle.verdict_report.specs.Lines.{head_lines, succeeds_line, fails_line}
use Rattle.explained_runs.specs.Told.{TellsApart, TellsAgain, TellsFromNothing}
use Rattle.explain_report.specs.Lines.{sure_text, apart_text, again_text, spent_text}

-- The end of the text: some such tree has a run without error; or none has, and a line tells where the first extension fails from
-- the tree of the given folders alone.
abbrev pub IsEnding : List Path → List (List ℕ) → List Program → Relation → List ℕ → Type 0
IsEnding given names es order last =
    ((last ≡ succeeds_line) × SucceedsFrom given es (Comes order))
    ⊎ ((SucceedsFrom given es (Comes order) → ⊥) × (line : List ℕ) × TellsFromNothing given names es order line
    × (last ≡ fails_line ++ line))

-- Status 0. From every file tree in which the given folders stand all allowed orders end in one same tree or all in error, and a
-- second run, in whatever allowed order, changes nothing.
pub record ExplainsSure (given : List Path) (names : List (List ℕ)) (es : List Program) (order : Relation)
    (head : List ℕ) (report : Report) : Type 0 where
  pub status : report.status ≡ 0
  pub deterministic : IsDeterministicFrom given es (Comes order)
  pub idempotent : IsIdempotentFrom given es (Comes order)
  pub last : List ℕ
  pub ending : IsEnding given names es order last
  pub text : report.text ≡ sure_text head last

-- Status 1. From a tree in which the given folders stand two allowed orders end apart, and the lines tell of their runs.
pub record ExplainsDifference (given : List Path) (names : List (List ℕ)) (es : List Program) (order : Relation)
    (head : List ℕ) (report : Report) : Type 0 where
  pub status : report.status ≡ 1
  pub lines : List ℕ
  pub told : TellsApart given names es order lines
  pub text : report.text ≡ apart_text head lines

-- Status 2. From every file tree in which the given folders stand all allowed orders end alike; but a second run changes what the first
-- left, in this allowed order, and the lines tell of it. Where no folder is given the order is the first extension.
pub record ExplainsChange (given : List Path) (names : List (List ℕ)) (es : List Program) (order : Relation)
    (head : List ℕ) (report : Report) : Type 0 where
  pub status : report.status ≡ 2
  pub deterministic : IsDeterministicFrom given es (Comes order)
  pub turns : List ℕ
  pub is_first : given ≡ [] → IsFirstExtension order turns
  pub lines : List ℕ
  pub told : TellsAgain given names es order turns lines
  pub succeeds : SucceedsFrom given es (Comes order)
  pub text : report.text ≡ again_text head lines

-- Status 3. A number of conflicts is given, and a working log of just as many steps over a formula that states the question shows
-- that they are spent. The lines ahead are true.
pub record ExplainsSpent (terms : Terms) (es : List Program) (order : Relation) (head : List ℕ) (report : Report) : Type 0 where
  pub status : report.status ≡ 3
  pub conflicts : ℕ
  pub limited : terms.conflicts ≡ Some conflicts
  pub asked : Asked
  pub formula : Formula
  pub steps : List Step
  pub spent : IsSpentOnFrom terms.given es order (budget_of terms.conflicts) asked formula steps
  pub known : IsKnownBeforeFrom terms.given es order asked
  pub text : report.text ≡ spent_text head asked (budget_of terms.conflicts)

-- one of the four
abbrev pub Explains : Terms → List (List ℕ) → List Program → Relation → List ℕ → Report → Type 0
Explains terms names es order head report =
    ExplainsSure terms.given names es order head report
    ⊎ (ExplainsDifference terms.given names es order head report
    ⊎ (ExplainsChange terms.given names es order head report ⊎ ExplainsSpent terms es order head report))

-- What is explained of programs and the order between them, which are within the limits. These notes stand behind the number of
-- resources, and then how many of them pruning leaves aside.
pub record IsExplained (terms : Terms) (notes : List ℕ) (names : List (List ℕ)) (es : List Program) (order : Relation)
    (report : Report) : Type 0 where
  pub paths : HasFewPathsWith terms.limits terms.given es
  pub weight : IsLightWith terms.limits es
  pub pruned : ℕ
  pub count : IsPrunedCount es (Comes order) pruned
  pub answer : Explains terms names es order (head_lines (length es) notes pruned) report
