-- The words of which the programs of resources are made.
use Rattle.std.specs.Prelude.{ℕ, zero, suc, ◌-◌, List, [], ◌∷◌, ◌++◌, length, take, map, filter, max, ◌==◌, codes}
use Rattle.fs_semantics.specs.FileTree.{Path}
use Rattle.fs_semantics.specs.Programs.{Program, Programs, Id, Err, Mkdir, Creat, Rm, Steps, If, IsFile, IsDir, IsEmpty, none, next}
use Rattle.pkg_listing.specs.Packages.{with_path}
pub use Rattle.fs_semantics.specs.Models.{put}

-- ---- sequences

-- a list of programs, as steps
abbrev pub steps : List Program → Programs
steps [] = none
steps (e ∷ es) = next e (steps es)

-- The program of a list of steps: nothing for none, and the step itself for one.
abbrev pub sequence : List Program → Program
sequence [] = Id
sequence (e ∷ []) = e
sequence (e ∷ f ∷ es) = Steps (steps (e ∷ f ∷ es))

-- ---- folders

-- the fronts of a path that have 1 to n segments, the shortest first
abbrev pub fronts : ℕ → Path → List Path
fronts zero p = []
fronts (suc n) p = fronts n p ++ take (suc n) p ∷ []

-- the paths above a path but the root, the shortest first
abbrev pub ancestors : Path → List Path
ancestors p = fronts (length p - 1) p

-- makes a folder unless it is there
abbrev pub dir : Path → Program
dir p = If (IsDir p) Id (Mkdir p)

-- makes the folders above a path
abbrev pub dirs : Path → List Program
dirs p = map dir (ancestors p)

-- removes a folder that has become empty
abbrev pub sweep : Path → Program
sweep p = If (IsEmpty p) (Rm p) Id

-- ---- files

-- removes a file, if it is there
abbrev pub drop_file : Path → Program
drop_file p = If (IsFile p) (Rm p) Id

-- makes an empty file, with the folders above it
abbrev pub mark : Path → List Program
mark m = dirs m ++ If (IsFile m) Id (Creat m []) ∷ []

-- fails where a file isn't there
abbrev pub need : Path → Program
need m = If (IsFile m) Id Err

-- ---- lists of paths

-- the paths, each where it stands first, behind those that are kept already
abbrev pub kept : List Path → List Path → List Path
kept seen [] = seen
kept seen (p ∷ ps) = kept (with_path seen p) ps

-- how many segments the longest of them has
abbrev pub deepest : List Path → ℕ
deepest [] = 0
deepest (p ∷ ps) = max (length p) (deepest ps)

-- those of n segments, then those of one fewer, and so on; of equally many in their order
abbrev pub from_depth : ℕ → List Path → List Path
from_depth zero ps = filter (λ p. length p == 0) ps
from_depth (suc n) ps = filter (λ p. length p == suc n) ps ++ from_depth n ps

-- those with more segments ahead of those with fewer
abbrev pub deepest_first : List Path → List Path
deepest_first ps = from_depth (deepest ps) ps

-- ---- the marks

-- the mark `/.rehearsal/WORD/NAME`, with each name as a segment
abbrev pub mark_path : List ℕ → List (List ℕ) → Path
mark_path word segments = codes ".rehearsal" ∷ word ∷ segments
