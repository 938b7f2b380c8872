-- The question whether two deterministic graphs do the same, and what its formula and its witness say.
use Rattle.std.specs.Prelude.{◌↔◌, ℕ, List, ◌++◌}
use Rattle.fs_semantics.specs.FileTree.{Tree}
use Rattle.fs_semantics.specs.Programs.{Program}
use Rattle.fs_semantics.specs.Orders.{Told}
use Rattle.finite_domain.specs.Layouts.{IsLayout}
use Rattle.path_domain.specs.declared.listed.Domain.{Domain}
use Rattle.path_domain.specs.Laid.{layout_of}
use Rattle.orders.specs.Relation.{Relation, comes}
use Rattle.cnf.specs.Formulas.{Formula, IsSatisfiable}
use Rattle.proof_check.specs.Refuted.{HasNoModel}
use Rattle.order_encode.specs.Witnesses.{IsOverDomain}
use Rattle.order_encode.specs.declared.witness.Witness.{Witness}
use Rattle.order_encode.specs.declared.witness.Witness.TheVariants as witness
use Rattle.answering.specs.declared.answering.Answer.{Answer}
use Rattle.answering.specs.Answers.{AnswersBy}
use Rattle.equal_graphs.specs.Equal.{AreEqual, FirstsPart}

-- From some tree over the domain the two first extensions have different outcomes.
pub record PartOver (es : List Program) (order : Relation) (fs : List Program) (other : Relation) (d : Domain) : Type 0 where
  pub tree : Tree
  pub over : IsOverDomain d tree
  pub part : FirstsPart es order fs other tree

-- The formula states whether the graphs do the same: it can be true exactly where, from some tree over the domain of the programs of
-- both, the two first extensions have different outcomes.
abbrev pub StatesParting : List Program → Relation → List Program → Relation → Formula → Type 0
StatesParting es order fs other f = (d : Domain) → IsLayout (es ++ fs) (layout_of d) → IsSatisfiable f ↔ PartOver es order fs other d

-- the formula states it, and has no model
pub record IsEqualProof (es : List Program) (order : Relation) (fs : List Program) (other : Relation) (f : Formula) : Type 0 where
  pub states : StatesParting es order fs other f
  pub no_model : HasNoModel f

-- From the witness's tree the two first extensions have different outcomes.
abbrev pub IsParting : List Program → Relation → List Program → Relation → Witness → Type 0
IsParting es order fs other (witness.Orders tree left right) = ⊥
IsParting es order fs other (witness.Twice tree first) = ⊥
IsParting es order fs other (witness.Ends tree first) = FirstsPart es order fs other tree

-- the tree of a witness
abbrev pub tree_in : Witness → Tree
tree_in (witness.Orders tree left right) = tree
tree_in (witness.Twice tree first) = tree
tree_in (witness.Ends tree first) = tree

-- what comes of it
abbrev pub AnswersParting : List Program → Relation → List Program → Relation → ℕ → Answer → Type 0
AnswersParting es order fs other budget a = AnswersBy (StatesParting es order fs other)
    (AreEqual es (Told (comes order)) fs (Told (comes other))) (IsParting es order fs other) budget a
