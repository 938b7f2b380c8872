-- What is told of two graphs that are compared, and what holds where it is told. It is told of the file trees in which the given
-- folders stand.
use Rattle.std.specs.Prelude.{◌≡◌, ◌⊎◌, ℕ, List, ◌++◌, length, Some}
use Rattle.fs_semantics.specs.FileTree.{Path, Tree}
use Rattle.fs_semantics.specs.Programs.{Program}
use Rattle.given_hosts.specs.Given.{Stand, IsDeterministicFrom, AreEqualFrom}
use Rattle.orders.specs.Relation.{Relation, Comes}
use Rattle.question_terms.specs.Terms.{budget_of}
use Rattle.question_terms.specs.declared.terms.Terms.{Terms}
use Rattle.cnf.specs.Formulas.{Formula}
use Rattle.cnf.specs.declared.log.Step.{Step}
use Rattle.determinism.specs.First.{IsPrunedCount}
use Rattle.verdict_report.specs.declared.report.Form.TheVariants as form
use Rattle.verdict_report.specs.declared.report.Report.{Report}
use Rattle.verdict_report.specs.Told.{IsDifferent, IsUnanswered}
use Rattle.equal_graphs.specs.Equal.{EndApart}
use Rattle.given_equal.specs.Sizes.{AreWithinWith}
use Rattle.given_equal.specs.Answers.{IsSpentOnFrom}
use Rattle.equal_report.specs.Lines.{settled_lines, equal_text, unequal_text, spent_equal_text}

-- The graph is deterministic from those trees, and pruning leaves k of its programs aside.
pub record IsSettledWith (given : List Path) (es : List Program) (order : Relation) (k : ℕ) : Type 0 where
  pub deterministic : IsDeterministicFrom given es (Comes order)
  pub count : IsPrunedCount es (Comes order) k

-- This is told of the right graph, behind the lines of the left one, which is deterministic.
pub record IsBehind (given : List Path) (notes : List ℕ) (es : List Program) (order : Relation) (told : Report → Type 0)
    (report : Report) : Type 0 where
  pub pruned : ℕ
  pub settled : IsSettledWith given es order pruned
  pub rest : List ℕ
  pub behind : told (record { status = report.status; text = rest })
  pub text : report.text ≡ settled_lines (length es) notes pruned ++ rest

-- from the tree that is told two orders that one graph allows have the outcomes that are told, which differ
pub record TellsDifference (terms : Terms) (notes : List ℕ) (names : List (List ℕ)) (es : List Program)
    (order : Relation) (report : Report) : Type 0 where
  pub pruned : ℕ
  pub count : IsPrunedCount es (Comes order) pruned
  pub different : IsDifferent form.Lines terms notes names es order pruned report

-- the conflicts that are given were spent on whether one graph is deterministic
pub record TellsUnanswered (terms : Terms) (notes : List ℕ) (es : List Program) (order : Relation) (report : Report) : Type 0 where
  pub pruned : ℕ
  pub count : IsPrunedCount es (Comes order) pruned
  pub unanswered : IsUnanswered form.Lines terms notes es order pruned report

-- Status 1. The left graph isn't deterministic; or it is, and the right one isn't.
abbrev pub OneDiffers : Terms → List ℕ → List ℕ → List (List ℕ) → List Program → Relation → List (List ℕ) → List Program
    → Relation → Report → Type 0
OneDiffers terms notes other_notes names es order others fs other report = TellsDifference terms notes names es order report ⊎ IsBehind terms.given notes es order (TellsDifference terms other_notes others fs other) report

-- Status 3. The conflicts that are given were spent on whether the left graph is deterministic; or it is, and they were spent on
-- whether the right one is.
abbrev pub OneIsUnanswered : Terms → List ℕ → List ℕ → List Program → Relation → List Program → Relation → Report → Type 0
OneIsUnanswered terms notes other_notes es order fs other report = TellsUnanswered terms notes es order report
    ⊎ IsBehind terms.given notes es order (TellsUnanswered terms other_notes fs other) report

-- Status 0. Both graphs are deterministic, and from every file tree in which the given folders stand all allowed orders of both end in
-- one same tree or all in error.
pub record TellsEqual (terms : Terms) (notes other_notes : List ℕ) (es : List Program) (order : Relation)
    (fs : List Program) (other : Relation) (report : Report) : Type 0 where
  pub status : report.status ≡ 0
  pub left : ℕ
  pub left_settled : IsSettledWith terms.given es order left
  pub right : ℕ
  pub right_settled : IsSettledWith terms.given fs other right
  pub equal : AreEqualFrom terms.given es (Comes order) fs (Comes other)
  pub text : report.text ≡ equal_text notes other_notes (length es) left (length fs) right

-- Status 10. Both graphs are deterministic, but from the tree that is told, in which the given folders stand, the one order, which the
-- left graph allows, and the other, which the right one allows, have the outcomes that are told, and these differ.
pub record TellsUnequal (terms : Terms) (notes other_notes : List ℕ) (names : List (List ℕ)) (es : List Program)
    (order : Relation) (others : List (List ℕ)) (fs : List Program) (other : Relation) (report : Report) : Type 0 where
  pub status : report.status ≡ 10
  pub left : ℕ
  pub left_settled : IsSettledWith terms.given es order left
  pub right : ℕ
  pub right_settled : IsSettledWith terms.given fs other right
  pub tree : Tree
  pub turns : List ℕ
  pub other_turns : List ℕ
  pub stand : Stand terms.given tree
  pub apart : EndApart es (Comes order) fs (Comes other) tree turns other_turns
  pub text : report.text ≡ unequal_text notes other_notes names es left turns others fs right other_turns tree

-- Status 3 behind the lines of both graphs, which are deterministic. A number of conflicts is given, and a working log of just as many
-- steps over a formula that states whether they do the same shows that they are spent.
pub record TellsSpent (terms : Terms) (notes other_notes : List ℕ) (es : List Program) (order : Relation)
    (fs : List Program) (other : Relation) (report : Report) : Type 0 where
  pub status : report.status ≡ 3
  pub left : ℕ
  pub left_settled : IsSettledWith terms.given es order left
  pub right : ℕ
  pub right_settled : IsSettledWith terms.given fs other right
  pub conflicts : ℕ
  pub limited : terms.conflicts ≡ Some conflicts
  pub formula : Formula
  pub steps : List Step
  pub spent : IsSpentOnFrom terms.given es order fs other (budget_of terms.conflicts) formula steps
  pub text : report.text ≡ spent_equal_text notes other_notes (length es) left (length fs) right (budget_of terms.conflicts)

-- one of the five
pub data Tells (terms : Terms) (notes other_notes : List ℕ) (names : List (List ℕ)) (es : List Program)
    (order : Relation) (others : List (List ℕ)) (fs : List Program) (other : Relation) (report : Report) : Type 0 where
  differs : OneDiffers terms notes other_notes names es order others fs other report
      → Tells terms notes other_notes names es order others fs other report
  unanswered : OneIsUnanswered terms notes other_notes es order fs other report
      → Tells terms notes other_notes names es order others fs other report
  equal : TellsEqual terms notes other_notes es order fs other report → Tells terms notes other_notes names es order others fs other report
  unequal : TellsUnequal terms notes other_notes names es order others fs other report
      → Tells terms notes other_notes names es order others fs other report
  spent : TellsSpent terms notes other_notes es order fs other report → Tells terms notes other_notes names es order others fs other report

-- What is told of two graphs that are compared, which are within the limits. Each has notes, which stand behind each number of its
-- resources.
pub record IsComparedTold (terms : Terms) (notes other_notes : List ℕ) (names : List (List ℕ)) (es : List Program)
    (order : Relation) (others : List (List ℕ)) (fs : List Program) (other : Relation) (report : Report) : Type 0 where
  pub within : AreWithinWith terms.limits terms.given es fs
  pub answer : Tells terms notes other_notes names es order others fs other report
