-- The question whether a run ends in a tree, from a tree in which given folders stand.
use Rattle.std.specs.Prelude.{◌≡◌, ◌↔◌, ℕ, List, IsSome}
use Rattle.fs_semantics.specs.FileTree.{Path, Tree}
use Rattle.fs_semantics.specs.Programs.{Program}
use Rattle.fs_semantics.specs.Orders.{Told, outcome}
use Rattle.finite_domain.specs.Layouts.{IsLayout}
use Rattle.path_domain.specs.declared.listed.Domain.{Domain}
use Rattle.path_domain.specs.Laid.{layout_of}
use Rattle.given_hosts.specs.Given.{IsGivenTree, SucceedsFrom}
use Rattle.orders.specs.Relation.{Relation, comes}
use Rattle.cnf.specs.Formulas.{Formula, IsSatisfiable}
use Rattle.proof_check.specs.Refuted.{HasNoModel}
use Rattle.order_encode.specs.Witnesses.{IsOverDomain, IsFirstExtension}
use Rattle.order_encode.specs.declared.witness.Witness.{Witness}
use Rattle.order_encode.specs.declared.witness.Witness.TheVariants as witness
use Rattle.answering.specs.Answers.{AnswersBy}
use Rattle.answering.specs.declared.answering.Answer.{Answer}
use Rattle.given_verdict.specs.Graphs.{asked_programs}

-- From the tree, in which the given folders stand, the first extension ends in a tree.
pub record IsRunFrom (given : List Path) (es : List Program) (order : Relation) (tree : Tree) (first : List ℕ) : Type 0 where
  pub is_first : IsFirstExtension order first
  pub is_tree : IsGivenTree given tree
  pub ends : IsSome (outcome es first tree)

-- It does so from some tree over the domain.
pub record HasEndFrom (given : List Path) (es : List Program) (order : Relation) (d : Domain) : Type 0 where
  pub tree : Tree
  pub first : List ℕ
  pub over : IsOverDomain d tree
  pub run : IsRunFrom given es order tree first

-- The formula states the question: it can be true exactly where, from some tree over the domain of the programs and the given paths,
-- in which the given folders stand, the first extension ends in a tree.
abbrev pub StatesEndFrom : List Path → List Program → Relation → Formula → Type 0
StatesEndFrom given es order f = (d : Domain) → IsLayout (asked_programs given es) (layout_of d) → IsSatisfiable f
    ↔ HasEndFrom given es order d

-- the formula states the question, and has no model
pub record IsEndProofFrom (given : List Path) (es : List Program) (order : Relation) (f : Formula) : Type 0 where
  pub states : StatesEndFrom given es order f
  pub no_model : HasNoModel f

-- the witness shows that it does
abbrev pub IsEndFrom : List Path → List Program → Relation → Witness → Type 0
IsEndFrom given es order (witness.Orders tree left right) = ⊥
IsEndFrom given es order (witness.Twice tree o) = ⊥
IsEndFrom given es order (witness.Ends tree first) = IsRunFrom given es order tree first

-- what comes of it
abbrev pub AnswersEndFrom : List Path → List Program → Relation → ℕ → Answer → Type 0
AnswersEndFrom given es order budget a = AnswersBy (StatesEndFrom given es order)
    (SucceedsFrom given es (Told (comes order)) → ⊥) (IsEndFrom given es order) budget a

-- the witness has this tree, with the first extension
abbrev pub IsFirstRun : Relation → Tree → Witness → Type 0
IsFirstRun order tree w = (first : List ℕ) × IsFirstExtension order first × (w ≡ witness.Ends tree first)

-- the same tree, with the first extension
abbrev pub IsRunOf : Relation → Witness → Witness → Type 0
IsRunOf order (witness.Orders tree left right) w = ⊥
IsRunOf order (witness.Twice tree o) w = IsFirstRun order tree w
IsRunOf order (witness.Ends tree o) w = IsFirstRun order tree w

-- the witness has a tree with one order
abbrev pub HasOneOrder : Witness → Type 0
HasOneOrder (witness.Orders tree left right) = ⊥
HasOneOrder (witness.Twice tree o) = Unit {0}
HasOneOrder (witness.Ends tree o) = Unit {0}
