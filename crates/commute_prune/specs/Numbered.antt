-- Footprints by number.
use Rattle.std.specs.Prelude.{◌≡◌, ℕ, ◌<◌, Bool, not, ◌&&◌, ◌||◌, List, Some, slice_get, slice_index_or}
use Rattle.std.specs.List.{list_any, AllByRecursion}
use Rattle.std.specs.BTreeMap.{BTreeMap}
use Rattle.fs_semantics.specs.FileTree.{Path, is_among}
use Rattle.fs_semantics.specs.Programs.{Program, Id}
use Rattle.effect_sets.specs.Footprints.{Footprint, footprint, nowhere, sure_after}
use Rattle.effect_sets.specs.Members.{Lists, is_parent_of, sets_of}
use Rattle.commute_prune.specs.declared.numbered.Numbered.{Numbered}
use Rattle.commute_prune.specs.Numbers.{has, AreNumbers, any_marked}

-- each set of the footprint by its numbers, the parents of what is written and of the folders, and the folders that stand afterwards
pub record AreSets (m : BTreeMap Path ℕ) (l : Lists) (x : Numbered) : Type 0 where
  pub reads : AreNumbers m (λ q. is_among q l.reads) x.reads.items
  pub writes : AreNumbers m (λ q. is_among q l.writes) x.writes.items
  pub folders : AreNumbers m (λ q. is_among q l.folders) x.folders.items
  pub children : AreNumbers m (λ q. is_among q l.children) x.children.items
  pub parents : AreNumbers m (λ q. is_parent_of q l.writes || is_parent_of q l.folders) x.parents.items
  pub sure : AreNumbers m (λ q. is_among q l.sure) x.sure.items

-- marks at the writes, the folders and the parents of the one, and the numbers of the other: nothing that the first changes is looked at by the second
abbrev pub clear_by_marks : List Bool → List Bool → List Bool → Numbered → Bool
clear_by_marks writes folders parents g =
    not (any_marked writes g.reads.items || any_marked writes g.writes.items || any_marked writes g.folders.items)
    && not (any_marked folders g.reads.items) && not (any_marked parents g.children.items)

-- some number stands in both
abbrev pub shares : List ℕ → List ℕ → Bool
shares ns ks = list_any (λ k. has k ns) ks

-- nothing that the first changes is looked at by the second
abbrev pub is_clear : Numbered → Numbered → Bool
is_clear f g =
    not (shares f.writes.items g.reads.items || shares f.writes.items g.writes.items || shares f.writes.items g.folders.items)
    && not (shares f.folders.items g.reads.items) && not (shares f.parents.items g.children.items)

-- the sets are those of the footprint
abbrev pub AreSetsOf : BTreeMap Path ℕ → Footprint → Numbered → Type 0
AreSetsOf m f x = (l : Lists) × (sets_of l ≡ f) × AreSets m l x

-- the sets are those of the program's footprint, and the folders are those that stand after it
abbrev pub StandsFor : BTreeMap Path ℕ → Program → Numbered → Type 0
StandsFor m e x = (l : Lists) × (sets_of l ≡ footprint e) × AreSets m l x × ((λ q. is_among q l.sure) ≡ sure_after e nowhere)

-- the sets of each program, in order
abbrev pub AreOf : BTreeMap Path ℕ → List Program → List Numbered → Type 0
AreOf m es xs = (i : ℕ) (x : Numbered) → slice_get xs i ≡ Some x → StandsFor m (slice_index_or es i Id) x

-- what is marked stands below the count
pub record IsBelow (count : ℕ) (f : Numbered) : Type 0 where
  pub writes : AllByRecursion (λ n. n < count) f.writes.items
  pub folders : AllByRecursion (λ n. n < count) f.folders.items
  pub parents : AllByRecursion (λ n. n < count) f.parents.items
  pub sure : AllByRecursion (λ n. n < count) f.sure.items
