-- The language of changes: tests and programs, and what they do to a tree.
use Rattle.std.specs.Prelude.{ℕ, Bool, true, false, not, ◌&&◌, ◌||◌, List, Option, Some, None, if◌then◌else◌}
use Rattle.std.specs.FinMap as map
use Rattle.fs_semantics.specs.FileTree.{Path, Entry, Folder, File, Link as LinkTo, Tree, parent, is_file, is_link, is_dir, is_none, is_root, is_empty_dir}

-- what is asked of a tree
pub data Test : Type 0 where
  True : Test
  False : Test
  Not : Test → Test
  And : Test → Test → Test
  Or : Test → Test → Test
  IsFile : Path → Test
  IsLink : Path → Test
  IsDir : Path → Test
  IsEmpty : Path → Test
  IsNone : Path → Test

mutual
  pub data Program : Type 0 where
    Id : Program
    Err : Program
    Mkdir : Path → Program
    Creat : Path → List ℕ → Program
    Link : Path → List ℕ → Program
    Rm : Path → Program
    Cp : Path → Path → Program
    Steps : Programs → Program
    If : Test → Program → Program → Program

  pub data Programs : Type 0 where
    none : Programs
    next : Program → Programs → Programs

-- whether a test holds in a tree, which it leaves as it is
abbrev pub holds : Test → Tree → Bool
holds True t = true
holds False t = false
holds (Not a) t = not (holds a t)
holds (And a b) t = holds a t && holds b t
holds (Or a b) t = holds a t || holds b t
holds (IsFile p) t = is_file t p
holds (IsLink p) t = is_link t p
holds (IsDir p) t = is_dir t p
holds (IsEmpty p) t = is_empty_dir t p
holds (IsNone p) t = is_none t p

-- How a run ends: in a tree, or None for Error. All runs that fail end alike, whatever they had changed.
abbrev pub Outcome : Type 0
Outcome = Option Tree

-- after Error all is Error
abbrev pub and_then : Outcome → (Tree → Outcome) → Outcome
and_then None f = None
and_then (Some t) f = f t

-- a new entry, where there is none and its parent is a folder
abbrev pub made : Path → Entry → Tree → Outcome
made p e t = if is_none t p && is_dir t (parent p) then Some (map.insert t p e) else None

-- a file, a link or an empty folder goes, but never the root
abbrev pub removed : Path → Tree → Outcome
removed p t = if is_file t p || is_link t p || (not (is_root p) && is_empty_dir t p) then Some (map.remove t p) else None

-- a new file with the content of the entry, where that is a file
abbrev pub copied : Option Entry → Path → Tree → Outcome
copied None q t = None
copied (Some Folder) q t = None
copied (Some (File content)) q t = made q (File content) t
copied (Some (LinkTo target)) q t = None

-- a program, from start to end; an Error ends it with Error
abbrev mutual
  pub run : Program → Tree → Outcome
  run Id t = Some t
  run Err t = None
  run (Mkdir p) t = made p Folder t
  run (Creat p content) t = made p (File content) t
  run (Link p target) t = made p (LinkTo target) t
  run (Rm p) t = removed p t
  run (Cp p q) t = copied (map.get t p) q t
  run (Steps es) t = run_all es t
  run (If a e f) t = if holds a t then run e t else run f t

  pub run_all : Programs → Tree → Outcome
  run_all none t = Some t
  run_all (next e es) t = and_then (run e t) (run_all es)
