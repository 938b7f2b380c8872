-- What paths and programs are read as, computed.
use Rattle.std.specs.Prelude.{ℕ, zero, suc, List, [], ◌∷◌, ◌++◌, length, Option, Some, None, if◌then◌else◌}
use Rattle.std.specs.Str.{bytes_eq}
use Rattle.fs_semantics.specs.FileTree.{Path}
use Rattle.fs_semantics.specs.Programs.{Test, True, False, Not, And, Or, IsFile, IsLink, IsDir, IsEmpty, IsNone, Program, Programs, Id, Err, Mkdir, Creat, Link, Rm, Cp, Steps, If, none, next}
use Rattle.finite_domain.specs.Mentions.{Matter, At, Below, Text}
use Rattle.given_links.specs.declared.links.GivenLink.{GivenLink}

-- what is left of a path behind another one, with which it begins
abbrev pub behind : Path → Path → Option Path
behind [] p = Some p
behind (s ∷ q) [] = None
behind (s ∷ q) (r ∷ p) = if bytes_eq s r then behind q p else None

-- what is left, behind the target; the other one where there is no such rest
abbrev pub moved : Option Path → Path → Option Path → Option Path
moved None target other = other
moved (Some rest) target other = Some (target ++ rest)

-- the same place at or below the target of the first link with such a path
abbrev pub once : List GivenLink → Path → Option Path
once [] p = None
once (l ∷ links) p = moved (behind l.path p) l.target (once links p)

-- the path that was found, and else the one that is there
abbrev pub or_here : Option Path → Path → (Path → Path) → Path
or_here None p f = p
or_here (Some q) p f = f q

-- behind at most so many links, one after the other
abbrev pub read_by : ℕ → List GivenLink → Path → Path
read_by zero links p = p
read_by (suc n) links p = or_here (once links p) p (read_by n links)

-- behind at most as many links as the path has segments: what is left of it gets shorter each time
abbrev pub read_as : List GivenLink → Path → Path
read_as links p = read_by (length p) links p

-- ---- programs

-- the test with another path in each path's place
abbrev pub test_with : (Path → Path) → Test → Test
test_with f True = True
test_with f False = False
test_with f (Not a) = Not (test_with f a)
test_with f (And a b) = And (test_with f a) (test_with f b)
test_with f (Or a b) = Or (test_with f a) (test_with f b)
test_with f (IsFile p) = IsFile (f p)
test_with f (IsLink p) = IsLink (f p)
test_with f (IsDir p) = IsDir (f p)
test_with f (IsEmpty p) = IsEmpty (f p)
test_with f (IsNone p) = IsNone (f p)

-- the program with another path in each path's place; contents, and the targets of links that it makes, stay
abbrev mutual
  pub program_with : (Path → Path) → Program → Program
  program_with f Id = Id
  program_with f Err = Err
  program_with f (Mkdir p) = Mkdir (f p)
  program_with f (Creat p content) = Creat (f p) content
  program_with f (Link p target) = Link (f p) target
  program_with f (Rm p) = Rm (f p)
  program_with f (Cp from p) = Cp (f from) (f p)
  program_with f (Steps es) = Steps (steps_with f es)
  program_with f (If a d e) = If (test_with f a) (program_with f d) (program_with f e)

  pub steps_with : (Path → Path) → Programs → Programs
  steps_with f none = none
  steps_with f (next e es) = next (program_with f e) (steps_with f es)

-- what a program is read as: each of its paths is
abbrev pub program_read_as : List GivenLink → Program → Program
program_read_as links e = program_with (read_as links) e

-- the same with another path in a path's place
abbrev pub matter_with : (Path → Path) → Matter → Matter
matter_with f (At p) = At (f p)
matter_with f (Below p) = Below (f p)
matter_with f (Text c) = Text c
