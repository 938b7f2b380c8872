-- The question whether two deterministic graphs do the same from the trees in which given folders stand.
use Rattle.std.specs.Prelude.{◌↔◌, List}
use Rattle.fs_semantics.specs.FileTree.{Path, Tree}
use Rattle.fs_semantics.specs.Programs.{Program}
use Rattle.finite_domain.specs.Layouts.{IsLayout}
use Rattle.path_domain.specs.declared.listed.Domain.{Domain}
use Rattle.path_domain.specs.Laid.{layout_of}
use Rattle.given_hosts.specs.Given.{Stand}
use Rattle.orders.specs.Relation.{Relation}
use Rattle.cnf.specs.Formulas.{Formula, IsSatisfiable}
use Rattle.proof_check.specs.Refuted.{HasNoModel}
use Rattle.order_encode.specs.Witnesses.{IsOverDomain}
use Rattle.equal_graphs.specs.Equal.{FirstsPart}
use Rattle.given_equal.specs.Sizes.{joined}

-- From the tree, in which the given folders stand, the two first extensions have different outcomes.
pub record FirstsPartFrom (given : List Path) (es : List Program) (order : Relation) (fs : List Program)
    (other : Relation) (tree : Tree) : Type 0 where
  pub stand : Stand given tree
  pub shows : FirstsPart es order fs other tree

-- From some tree over the domain they do.
pub record PartOverFrom (given : List Path) (es : List Program) (order : Relation) (fs : List Program)
    (other : Relation) (d : Domain) : Type 0 where
  pub tree : Tree
  pub over : IsOverDomain d tree
  pub part : FirstsPartFrom given es order fs other tree

-- The formula states whether the graphs do the same: it can be true exactly where, from some tree over the domain of the programs of
-- both and the given paths, in which the given folders stand, the two first extensions have different outcomes.
abbrev pub StatesPartingFrom : List Path → List Program → Relation → List Program → Relation → Formula → Type 0
StatesPartingFrom given es order fs other f = (d : Domain) → IsLayout (joined given es fs) (layout_of d)
    → IsSatisfiable f ↔ PartOverFrom given es order fs other d

-- the formula states it, and has no model
pub record IsEqualProofFrom (given : List Path) (es : List Program) (order : Relation) (fs : List Program)
    (other : Relation) (f : Formula) : Type 0 where
  pub states : StatesPartingFrom given es order fs other f
  pub no_model : HasNoModel f
