-- What programs change, and how two of them meet.
use Rattle.std.specs.Prelude.{◌≡◌, ◌⊎◌, List, [], ◌∷◌, Some}
use Rattle.std.specs.List.{AllByRecursion}
use Rattle.fs_semantics.specs.FileTree.{Path, IsSegment, IsBytes, Tree, IsTree}
use Rattle.fs_semantics.specs.Programs.{Program, Programs, Id, Err, Mkdir, Creat, Link, Rm, Cp, Steps, If, none, next, and_then, run}

-- the program may change what stands at the path
abbrev mutual
  pub Changes : Program → Path → Type 0
  Changes Id q = ⊥
  Changes Err q = ⊥
  Changes (Mkdir p) q = q ≡ p
  Changes (Creat p content) q = q ≡ p
  Changes (Link p target) q = q ≡ p
  Changes (Rm p) q = q ≡ p
  Changes (Cp from p) q = q ≡ p
  Changes (Steps es) q = ChangesInSteps es q
  Changes (If a e f) q = Changes e q ⊎ Changes f q

  pub ChangesInSteps : Programs → Path → Type 0
  ChangesInSteps none q = ⊥
  ChangesInSteps (next e es) q = Changes e q ⊎ ChangesInSteps es q

-- each path at which the program may make an entry is made of segments, and its contents and targets are of bytes
abbrev mutual
  pub IsProper : Program → Type 0
  IsProper Id = Unit {0}
  IsProper Err = Unit {0}
  IsProper (Mkdir p) = AllByRecursion IsSegment p
  IsProper (Creat p content) = AllByRecursion IsSegment p × IsBytes content
  IsProper (Link p target) = AllByRecursion IsSegment p × IsBytes target
  IsProper (Rm p) = Unit {0}
  IsProper (Cp from p) = AllByRecursion IsSegment p
  IsProper (Steps es) = AreProperSteps es
  IsProper (If a e f) = IsProper e × IsProper f

  pub AreProperSteps : Programs → Type 0
  AreProperSteps none = Unit {0}
  AreProperSteps (next e es) = IsProper e × AreProperSteps es

-- from every such tree the two end alike in either order, Error included
abbrev pub CommuteFrom : (Tree → Type 0) → Program → Program → Type 0
CommuteFrom P e f = (t : Tree) → P t → and_then (run e t) (run f) ≡ and_then (run f t) (run e)

-- from every file tree
abbrev pub Commutes : Program → Program → Type 0
Commutes = CommuteFrom IsTree

-- each commutes with those after it
abbrev pub AllCommuteFrom : (Tree → Type 0) → List Program → Type 0
AllCommuteFrom P [] = Unit {0}
AllCommuteFrom P (e ∷ es) = AllByRecursion (CommuteFrom P e) es × AllCommuteFrom P es

-- from every file tree
abbrev pub AllCommute : List Program → Type 0
AllCommute = AllCommuteFrom IsTree

-- run again, the program changes nothing
abbrev pub SettlesFrom : (Tree → Type 0) → Program → Type 0
SettlesFrom P e = (t u : Tree) → P t → run e t ≡ Some u → run e u ≡ Some u

-- from every file tree
abbrev pub Settles : Program → Type 0
Settles = SettlesFrom IsTree
