-- Footprints that are apart where some folders stand.
use Rattle.std.specs.Prelude.{◌≡◌, false, ◌||◌, IsTrue}
use Rattle.std.specs.BTreeSet.{BTreeSet}
use Rattle.fs_semantics.specs.FileTree.{Path, Tree, parent, is_among}
use Rattle.fs_semantics.specs.Programs.{Program}
use Rattle.fs_semantics.specs.Changes.{IsProper, CommuteFrom}
use Rattle.effect_sets.specs.Footprints.{Paths, Footprint, nowhere, footprint, sure_after}
use Rattle.effect_sets.specs.Members.{Lists, members, sets_of}
use Rattle.sure_folders.specs.Folders.{In, IsTreeWith}

-- a file tree in which the folders of the set stand
abbrev pub TreeWith : BTreeSet Path → Tree → Type 0
TreeWith folders = IsTreeWith (In (members folders))

-- the two commute from every file tree in which the folders of the set stand
abbrev pub CommuteWith : BTreeSet Path → Program → Program → Type 0
CommuteWith folders = CommuteFrom (TreeWith folders)

-- The first writes none of these folders; and what it changes is apart from what the second looks at, these folders aside.
pub record IsClearIn (folders : Paths) (f g : Footprint) : Type 0 where
  pub kept : (q : Path) → IsTrue (f.writes q) → folders q ≡ false
  pub writes : (q : Path) → IsTrue (f.writes q) → (g.reads q || g.writes q || g.folders q) ≡ false
  pub folders_made : (q : Path) → IsTrue (f.folders q) → IsTrue (g.reads q) → IsTrue (folders q)
  pub children : (q : Path) → IsTrue (f.writes q || f.folders q) → g.children (parent q) ≡ false

-- so both ways
pub record AreApartIn (folders : Paths) (f g : Footprint) : Type 0 where
  pub left : IsClearIn folders f g
  pub right : IsClearIn folders g f

-- this is the footprint of the program, which is proper
pub record IsPrintOf (e : Program) (f : Lists) : Type 0 where
  pub sets : sets_of f ≡ footprint e
  pub sure : (λ q. is_among q f.sure) ≡ sure_after e nowhere
  pub proper : IsProper e
