-- Runs that end in a tree without a wanted entry.
use Rattle.std.specs.Prelude.{◌≡◌, ℕ, List, Some}
use Rattle.fs_semantics.specs.FileTree.{Tree}
use Rattle.fs_semantics.specs.Programs.{Program}
use Rattle.fs_semantics.specs.Orders.{outcome}
use Rattle.path_domain.specs.declared.listed.Domain.{Domain}
use Rattle.orders.specs.Relation.{Relation, Comes}
use Rattle.wanted_entry.specs.declared.wanted.Wanted.{Wanted}
use Rattle.wanted_entry.specs.Entries.{HasWanted, EndsWithout}
use Rattle.order_encode.specs.Witnesses.{IsOverDomain, IsFirstExtension}
use Rattle.order_encode.specs.declared.witness.Witness.{Witness}
use Rattle.order_encode.specs.declared.witness.Witness.TheVariants as witness

-- the order ends in a tree without the entry
abbrev pub EndsMissing : List Program → List ℕ → Wanted → Tree → Type 0
EndsMissing programs order w t = (u : Tree) × (outcome programs order t ≡ Some u) × (HasWanted u w → ⊥)

-- The first extension ends, from a tree over the domain, in a tree without the entry.
pub record IsMissedFrom (programs : List Program) (order : Relation) (d : Domain) (w : Wanted) (tree : Tree) (first : List ℕ) : Type 0 where
  pub is_first : IsFirstExtension order first
  pub over : IsOverDomain d tree
  pub without : EndsWithout programs (Comes order) w tree first

-- It does so from some tree over the domain.
pub record HasMissing (programs : List Program) (order : Relation) (d : Domain) (w : Wanted) : Type 0 where
  pub tree : Tree
  pub first : List ℕ
  pub missed : IsMissedFrom programs order d w tree first

-- the witness shows that it does
abbrev pub ShowsMissing : List Program → Relation → Domain → Wanted → Witness → Type 0
ShowsMissing programs order d w (witness.Orders tree left right) = ⊥
ShowsMissing programs order d w (witness.Twice tree first) = ⊥
ShowsMissing programs order d w (witness.Ends tree first) = IsMissedFrom programs order d w tree first
