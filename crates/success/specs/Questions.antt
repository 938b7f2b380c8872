-- The question whether a deterministic graph succeeds, in the order of its first extension, and what its formula and witness say.
use Rattle.std.specs.Prelude.{◌↔◌, List, IsSome}
use Rattle.fs_semantics.specs.FileTree.{IsTree}
use Rattle.fs_semantics.specs.Programs.{Program}
use Rattle.fs_semantics.specs.Orders.{outcome}
use Rattle.finite_domain.specs.Layouts.{IsLayout}
use Rattle.path_domain.specs.declared.listed.Domain.{Domain}
use Rattle.path_domain.specs.Laid.{layout_of}
use Rattle.orders.specs.Relation.{Relation}
use Rattle.cnf.specs.Formulas.{Formula, IsSatisfiable}
use Rattle.proof_check.specs.Refuted.{HasNoModel}
use Rattle.order_encode.specs.Witnesses.{IsFirstExtension, HasEnd}
use Rattle.order_encode.specs.declared.witness.Witness.{Witness}
use Rattle.order_encode.specs.declared.witness.Witness.TheVariants as witness

-- The formula states whether the graph succeeds: it can be true exactly where the first extension ends in a tree from some tree
-- over the domain of the programs.
abbrev pub StatesEnd : List Program → Relation → Formula → Type 0
StatesEnd es order f = (d : Domain) → IsLayout es (layout_of d) → IsSatisfiable f ↔ HasEnd es order d

-- the formula states whether the graph succeeds, and has no model
pub record IsEndProof (es : List Program) (order : Relation) (f : Formula) : Type 0 where
  pub states : StatesEnd es order f
  pub no_model : HasNoModel f

-- From the tree the first extension ends in a tree.
abbrev pub IsEnd : List Program → Relation → Witness → Type 0
IsEnd es order (witness.Orders tree left right) = ⊥
IsEnd es order (witness.Twice tree first) = ⊥
IsEnd es order (witness.Ends tree first) = IsFirstExtension order first × IsTree tree × IsSome (outcome es first tree)
