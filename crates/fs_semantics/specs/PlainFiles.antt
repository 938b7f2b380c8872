-- Files to be put at disjoint paths.
use Rattle.std.specs.Prelude.{◌≢◌, ℕ, Bool, false, List, [], map}
use Rattle.std.specs.List.{AllByRecursion}
use Rattle.fs_semantics.specs.FileTree.{Path, IsSegment}
use Rattle.fs_semantics.specs.Programs.{Program}
use Rattle.fs_semantics.specs.Models.{put}
use Rattle.fs_semantics.specs.Disjoint.{AreDisjoint}
use Rattle.fs_semantics.specs.Orders.{Told}

-- a path and the content that is put there
abbrev pub PlainFile : Type 0
PlainFile = Path × List ℕ

-- not the root, and made of segments
pub record IsFilePath (p : Path) : Type 0 where
  pub not_root : p ≢ []
  pub segments : AllByRecursion IsSegment p

-- each path may be a file's, and none is another one or above it
pub record ArePlain (files : List PlainFile) : Type 0 where
  pub paths : AllByRecursion (λ f. IsFilePath f.0) files
  pub disjoint : AreDisjoint (map (λ f. f.0) files)

-- the programs that put the files
abbrev pub puts : List PlainFile → List Program
puts files = map (λ f. put f.0 f.1) files

-- no program comes before another
abbrev pub never : ℕ → ℕ → Bool
never a b = false

-- the same as a relation
abbrev pub Unordered : ℕ → ℕ → Type 0
Unordered = Told never
