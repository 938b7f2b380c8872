-- The questions about second runs, where the first run begins in a tree in which given folders stand, and the second in what that
-- left. It is asked first whether a second run in the first extension changes anything. Where a program may remove a given folder it
-- is asked too whether all orders end alike behind a run in the first extension.
use Rattle.std.specs.Prelude.{◌≡◌, ◌⊎◌, ◌↔◌, ℕ, List, []}
use Rattle.fs_semantics.specs.FileTree.{Path, Tree}
use Rattle.fs_semantics.specs.Programs.{Program}
use Rattle.fs_semantics.specs.Orders.{Told}
use Rattle.finite_domain.specs.Layouts.{IsLayout}
use Rattle.path_domain.specs.declared.listed.Domain.{Domain}
use Rattle.path_domain.specs.Laid.{layout_of}
use Rattle.given_hosts.specs.Given.{IsIdempotentFrom, IsSecondRunCounterexampleFrom}
use Rattle.given_hosts.specs.Guard.{guard_before, after_first}
use Rattle.orders.specs.Relation.{Relation, comes, Comes}
use Rattle.cnf.specs.Formulas.{Formula, IsSatisfiable}
use Rattle.cnf.specs.declared.log.Step.{Step}
use Rattle.proof_check.specs.Refuted.{HasNoModel}
use Rattle.order_encode.specs.Witnesses.{IsOverDomain, IsFirstExtension}
use Rattle.order_encode.specs.declared.witness.Witness.{Witness}
use Rattle.order_encode.specs.declared.witness.Witness.TheVariants as witness
use Rattle.determinism.specs.First.{IsSpent}
use Rattle.answering.specs.Answers.{UsesUp, AnswersBy}
use Rattle.answering.specs.declared.answering.Answer.{Answer}
use Rattle.answering.specs.declared.answering.Answer.TheVariants as answer
use Rattle.given_verdict.specs.Graphs.{asked_programs}

-- From the tree, in which the given folders stand, the first extension ends in a tree that a second run in it doesn't leave as it is.
pub record IsChangedFrom (given : List Path) (es : List Program) (order : Relation) (tree : Tree) (first : List ℕ) : Type 0 where
  pub is_first : IsFirstExtension order first
  pub shows : IsSecondRunCounterexampleFrom given es (Comes order) tree first

-- It does so from some tree over the domain.
pub record HasChangeFrom (given : List Path) (es : List Program) (order : Relation) (d : Domain) : Type 0 where
  pub tree : Tree
  pub first : List ℕ
  pub over : IsOverDomain d tree
  pub changed : IsChangedFrom given es order tree first

-- The formula states the question: it can be true exactly where, from some tree over the domain of the programs and the given paths,
-- the first extension ends in a tree that it doesn't leave as it is.
abbrev pub StatesSecondFrom : List Path → List Program → Relation → Formula → Type 0
StatesSecondFrom given es order f = (d : Domain) → IsLayout (asked_programs given es) (layout_of d) → IsSatisfiable f
    ↔ HasChangeFrom given es order d

-- the formula states that question, and has no model
pub record IsSecondProofFrom (given : List Path) (es : List Program) (order : Relation) (f : Formula) : Type 0 where
  pub states : StatesSecondFrom given es order f
  pub no_model : HasNoModel f

-- no second run changes anything, and the formula, which has no model, states the question
abbrev pub IsSettledFrom : List Path → List Program → Relation → Formula → Type 0
IsSettledFrom given es order f = IsIdempotentFrom given es (Told (comes order)) × IsSecondProofFrom given es order f

-- From the tree, in which the given folders stand, this allowed order ends in a tree that a second run in it doesn't leave as it is.
-- Where no folder is given the order is the first extension.
abbrev pub IsChangeFrom : List Path → List Program → Relation → Witness → Type 0
IsChangeFrom given es order (witness.Orders tree left right) = ⊥
IsChangeFrom given es order (witness.Twice tree o) = IsSecondRunCounterexampleFrom given es (Comes order) tree o
    × (given ≡ [] → IsFirstExtension order o)
IsChangeFrom given es order (witness.Ends tree o) = ⊥

-- The budget was spent on a formula that states whether all orders end alike behind a run in the first extension.
pub record IsSpentBehind (given : List Path) (es : List Program) (order : Relation) (budget : ℕ) (f : Formula)
    (steps : List Step) : Type 0 where
  pub first : List ℕ
  pub is_first : IsFirstExtension order first
  pub spent : IsSpent (after_first given es first) (Told (guard_before order.count (comes order))) budget f steps

-- The budget was spent on one of the two questions.
abbrev pub IsSecondSpentFrom : List Path → List Program → Relation → ℕ → Formula → List Step → Type 0
IsSecondSpentFrom given es order budget f steps = (StatesSecondFrom given es order f × UsesUp budget f steps)
    ⊎ IsSpentBehind given es order budget f steps

-- what comes of the questions
abbrev pub AnswersAgainFrom : List Path → List Program → Relation → ℕ → Answer → Type 0
AnswersAgainFrom given es order budget (answer.Refuted v) = IsSettledFrom given es order v.formula
AnswersAgainFrom given es order budget (answer.Shown w) = IsChangeFrom given es order w
AnswersAgainFrom given es order budget (answer.Spent cnf log) = IsSecondSpentFrom given es order budget cnf log.steps

-- ---- of a second run in the first extension

-- it does so from no tree
abbrev pub NeverChangedFrom : List Path → List Program → Relation → Type 0
NeverChangedFrom given es order = (tree : Tree) (first : List ℕ) → IsChangedFrom given es order tree first → ⊥

-- the witness shows that it does
abbrev pub IsSecondChangeFrom : List Path → List Program → Relation → Witness → Type 0
IsSecondChangeFrom given es order (witness.Orders tree left right) = ⊥
IsSecondChangeFrom given es order (witness.Twice tree first) = IsChangedFrom given es order tree first
IsSecondChangeFrom given es order (witness.Ends tree first) = ⊥

-- the witness's tree does
abbrev pub IsChangeTree : List Path → List Program → Relation → Witness → Type 0
IsChangeTree given es order (witness.Orders tree left right) = ⊥
IsChangeTree given es order (witness.Twice tree o) = ⊥
IsChangeTree given es order (witness.Ends tree o) = (first : List ℕ) × IsChangedFrom given es order tree first

-- what comes of it
abbrev pub AnswersSecondFrom : List Path → List Program → Relation → ℕ → Answer → Type 0
AnswersSecondFrom given es order budget a = AnswersBy (StatesSecondFrom given es order)
    (NeverChangedFrom given es order) (IsSecondChangeFrom given es order) budget a

-- the same tree, with the first extension
abbrev pub IsWithFirst : Relation → Witness → Witness → Type 0
IsWithFirst order (witness.Orders tree left right) w = ⊥
IsWithFirst order (witness.Twice tree o) w = ⊥
IsWithFirst order (witness.Ends tree o) w = (first : List ℕ) × IsFirstExtension order first × (w ≡ witness.Twice tree first)

-- the witness has a tree alone
abbrev pub IsOfEnd : Witness → Type 0
IsOfEnd (witness.Orders tree left right) = ⊥
IsOfEnd (witness.Twice tree o) = ⊥
IsOfEnd (witness.Ends tree o) = Unit {0}
