-- The question of a second run of a deterministic graph, in the order of its first extension, and what its formula and witness say.
use Rattle.std.specs.Prelude.{◌↔◌, List}
use Rattle.fs_semantics.specs.Programs.{Program}
use Rattle.fs_semantics.specs.Orders.{IsSecondRunCounterexample}
use Rattle.finite_domain.specs.Layouts.{IsLayout}
use Rattle.path_domain.specs.declared.listed.Domain.{Domain}
use Rattle.path_domain.specs.Laid.{layout_of}
use Rattle.orders.specs.Relation.{Relation, Comes}
use Rattle.cnf.specs.Formulas.{Formula, IsSatisfiable}
use Rattle.proof_check.specs.Refuted.{HasNoModel}
use Rattle.order_encode.specs.Witnesses.{IsFirstExtension, HasSecondChange}
use Rattle.order_encode.specs.declared.witness.Witness.{Witness}
use Rattle.order_encode.specs.declared.witness.Witness.TheVariants as witness

-- The formula states whether a second run changes anything: it can be true exactly where, from some tree over the domain of the
-- programs, the first extension ends in a tree that it doesn't leave as it is.
abbrev pub StatesSecond : List Program → Relation → Formula → Type 0
StatesSecond es order f = (d : Domain) → IsLayout es (layout_of d) → IsSatisfiable f ↔ HasSecondChange es order d

-- the formula states whether a second run changes anything, and has no model
pub record IsSecondProof (es : List Program) (order : Relation) (f : Formula) : Type 0 where
  pub states : StatesSecond es order f
  pub no_model : HasNoModel f

-- From the tree the first extension ends in a tree that a second run in the same order doesn't leave as it is.
abbrev pub IsSecondChange : List Program → Relation → Witness → Type 0
IsSecondChange es order (witness.Orders tree left right) = ⊥
IsSecondChange es order (witness.Twice tree first) = IsFirstExtension order first × IsSecondRunCounterexample es (Comes order) tree first
IsSecondChange es order (witness.Ends tree first) = ⊥
