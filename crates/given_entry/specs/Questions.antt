-- The question whether a run of a graph, from a tree in which given folders stand, ends without the wanted entry.
use Rattle.std.specs.Prelude.{◌≡◌, ◌↔◌, ℕ, List, length, Some}
use Rattle.fs_semantics.specs.FileTree.{Path, Tree}
use Rattle.fs_semantics.specs.Programs.{Program}
use Rattle.fs_semantics.specs.Orders.{IsLinearExtension, outcome}
use Rattle.finite_domain.specs.Layouts.{IsLayout}
use Rattle.path_domain.specs.declared.listed.Domain.{Domain}
use Rattle.path_domain.specs.Laid.{layout_of}
use Rattle.given_hosts.specs.Given.{Stand, IsGivenTree}
use Rattle.orders.specs.Relation.{Relation, Comes}
use Rattle.cnf.specs.Formulas.{Formula, IsSatisfiable}
use Rattle.proof_check.specs.Refuted.{HasNoModel}
use Rattle.order_encode.specs.Witnesses.{IsOverDomain, IsFirstExtension}
use Rattle.order_encode.specs.declared.witness.Witness.{Witness}
use Rattle.order_encode.specs.declared.witness.Witness.TheVariants as witness
use Rattle.wanted_entry.specs.declared.wanted.Wanted.{Wanted}
use Rattle.wanted_entry.specs.Entries.{HasWanted, EndsWithout}
use Rattle.given_entry.specs.Sizes.{probed}

-- From every tree in which the given folders stand, and in every allowed order, a run that ends in a tree ends in one that has the entry.
abbrev pub EnsuresFrom : List Path → List Program → (ℕ → ℕ → Type 0) → Wanted → Type 0
EnsuresFrom given programs before w = (t : Tree) → IsGivenTree given t → (o : List ℕ) → IsLinearExtension (length programs) before o
    → (u : Tree) → outcome programs o t ≡ Some u → HasWanted u w

-- From the tree, in which the given folders stand, the allowed order ends in a tree that hasn't the entry.
pub record EndsWithoutFrom (given : List Path) (programs : List Program) (before : ℕ → ℕ → Type 0) (w : Wanted)
    (tree : Tree) (order : List ℕ) : Type 0 where
  pub stand : Stand given tree
  pub shows : EndsWithout programs before w tree order

-- The first extension does so from some tree over the domain.
pub record HasMissingFrom (given : List Path) (es : List Program) (order : Relation) (d : Domain) (w : Wanted) : Type 0 where
  pub tree : Tree
  pub first : List ℕ
  pub over : IsOverDomain d tree
  pub is_first : IsFirstExtension order first
  pub missed : EndsWithoutFrom given es (Comes order) w tree first

-- The formula states whether a run ends without the entry: it can be true exactly where the first extension ends, from some tree over
-- the domain of the programs, the given paths and the probe, in which the given folders stand, in a tree without it.
abbrev pub StatesMissingFrom : List Path → List Program → Relation → Wanted → Formula → Type 0
StatesMissingFrom given es order w f = (d : Domain) → IsLayout (probed given es w) (layout_of d) → IsSatisfiable f
    ↔ HasMissingFrom given es order d w

-- the formula states it, and has no model
pub record IsEntryProofFrom (given : List Path) (es : List Program) (order : Relation) (w : Wanted) (f : Formula) : Type 0 where
  pub states : StatesMissingFrom given es order w f
  pub no_model : HasNoModel f

-- From the witness's tree, in which the given folders stand, its order, which is allowed, ends in a tree without the entry.
abbrev pub IsMissedFrom : List Path → List Program → Relation → Wanted → Witness → Type 0
IsMissedFrom given es order w (witness.Orders tree left right) = ⊥
IsMissedFrom given es order w (witness.Twice tree first) = ⊥
IsMissedFrom given es order w (witness.Ends tree first) = EndsWithoutFrom given es (Comes order) w tree first
