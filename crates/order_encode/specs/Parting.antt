-- Orders of two lists of programs that end differently from a tree.
use Rattle.std.specs.Prelude.{◌≢◌, ℕ, List}
use Rattle.fs_semantics.specs.FileTree.{Tree, IsTree}
use Rattle.fs_semantics.specs.Programs.{Program}
use Rattle.fs_semantics.specs.Orders.{outcome}
use Rattle.path_domain.specs.declared.listed.Domain.{Domain}
use Rattle.order_encode.specs.Witnesses.{IsOverDomain}
use Rattle.order_encode.specs.declared.witness.Witness.{Witness}
use Rattle.order_encode.specs.declared.witness.Witness.TheVariants as witness

-- from the tree the one order of the one programs has another outcome than the other order of the other programs
abbrev pub EndDifferently : List Program → List ℕ → List Program → List ℕ → Tree → Type 0
EndDifferently es order fs other t = outcome es order t ≢ outcome fs other t

-- They do so from this tree over the domain.
pub record PartFrom (es : List Program) (order : List ℕ) (fs : List Program) (other : List ℕ) (d : Domain) (tree : Tree) : Type 0 where
  pub is_tree : IsTree tree
  pub over : IsOverDomain d tree
  pub differ : EndDifferently es order fs other tree

-- They do so from some tree over the domain.
pub record HaveParting (es : List Program) (order : List ℕ) (fs : List Program) (other : List ℕ) (d : Domain) : Type 0 where
  pub tree : Tree
  pub parts : PartFrom es order fs other d tree

-- the witness's tree shows that they do
abbrev pub ShowsParting : List Program → List ℕ → List Program → List ℕ → Domain → Witness → Type 0
ShowsParting es order fs other d (witness.Orders tree left right) = ⊥
ShowsParting es order fs other d (witness.Twice tree first) = ⊥
ShowsParting es order fs other d (witness.Ends tree first) = PartFrom es order fs other d tree
