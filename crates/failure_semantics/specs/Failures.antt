-- Which construct of a program ends its run in Error, and why.
use Rattle.std.specs.Prelude.{◌≡◌, ◌⊎◌, [], IsTrue, Option, Some, None}
use Rattle.std.specs.FinMap as map
use Rattle.fs_semantics.specs.FileTree.{Path, Entry, Tree, parent}
use Rattle.fs_semantics.specs.Entries.{IsFileAt, IsFolderAt, IsFreeAt, HasNoChild}
use Rattle.fs_semantics.specs.Programs.{Test, Not, Program, Programs, Id, Err, Mkdir, Creat, Link, Rm, Cp, Steps, If, none, next, holds, run}

-- Why a construct gives Error.
pub data Reason : Type 0 where
  Exists : Reason
  NoFolder : Reason
  NoFile : Reason
  NothingThere : Reason
  NotEmpty : Reason
  TheRoot : Reason
  Needs : Test → Reason
  Always : Reason

-- the path is the root or has an entry
abbrev pub IsTakenAt : Tree → Path → Type 0
IsTakenAt t p = (p ≡ []) ⊎ ((x : Entry) × (map.get t p ≡ Some x))

-- some entry has the path as its parent
abbrev pub HasChild : Tree → Path → Type 0
HasChild t p = (q : Path) × IsTrue (map.contains_key t q) × (parent q ≡ p)

-- why no entry can be made at the path: one is there, else it lacks a folder above it
abbrev pub HasNoPlace : Path → Reason → Tree → Type 0
HasNoPlace p Exists t = IsTakenAt t p
HasNoPlace p NoFolder t = IsFreeAt t p × (IsFolderAt t (parent p) → ⊥)
HasNoPlace p _ t = ⊥

-- why nothing can be removed at the path: nothing is there, or a folder that isn't empty, or the root of an empty tree
abbrev pub StaysThere : Path → Reason → Tree → Type 0
StaysThere p NothingThere t = IsFreeAt t p
StaysThere p NotEmpty t = IsFolderAt t p × HasChild t p
StaysThere p TheRoot t = (p ≡ []) × HasNoChild t p
StaysThere p _ t = ⊥

-- why no file can be copied: there is none to be copied, else its copy has no place
abbrev pub HasNoCopy : Path → Path → Reason → Tree → Type 0
HasNoCopy from p NoFile t = IsFileAt t from → ⊥
HasNoCopy from p r t = IsFileAt t from × HasNoPlace p r t

-- the reason holds of this construct in the tree; what `err` needs is that a test holds
abbrev pub Explains : Program → Reason → Tree → Type 0
Explains Err (Needs a) t = IsTrue (holds a t) → ⊥
Explains Err Always t = Unit {0}
Explains (Mkdir p) r t = HasNoPlace p r t
Explains (Creat p content) r t = HasNoPlace p r t
Explains (Link p target) r t = HasNoPlace p r t
Explains (Rm p) r t = StaysThere p r t
Explains (Cp from p) r t = HasNoCopy from p r t
Explains _ _ t = ⊥

-- a construct that gave Error, why, and the tree in which the reason holds
pub record Failure : Type 0 where
  pub construct : Program
  pub reason : Reason
  pub tree : Tree

-- The innermost choice in whose branch a construct stands: the test that would have led into the other branch, and the
-- tree in which the choice was made. None where it stands in no branch.
abbrev pub Choice : Type 0
Choice = Option (Test × Tree)

-- what `err` needs there: nothing would do where it stands in no branch
abbrev pub needed : Choice → Reason
needed None = Always
needed (Some c) = Needs c.0

-- where that was asked
abbrev pub asked_of : Choice → Tree → Tree
asked_of None t = t
asked_of (Some c) t = c.1

-- `err` fails for the choice that led to it
abbrev pub refusal : Choice → Tree → Failure
refusal c t = record { construct = Err; reason = needed c; tree = asked_of c t }

-- the construct ends in Error in this tree, for this reason
pub record FailsHere (e : Program) (t : Tree) (f : Failure) : Type 0 where
  pub construct : f.construct ≡ e
  pub tree : f.tree ≡ t
  pub fails : run e t ≡ None
  pub reason : Explains e f.reason t

-- The program, which stands in this choice, ends in Error from the tree, and this is the construct that gave it. Of steps
-- it is one of the first step that fails, in the tree that those ahead of it left.
abbrev mutual
  pub FailsIn : Choice → Program → Tree → Failure → Type 0
  FailsIn c Id t f = ⊥
  FailsIn c Err t f = f ≡ refusal c t
  FailsIn c (Mkdir p) t f = FailsHere (Mkdir p) t f
  FailsIn c (Creat p content) t f = FailsHere (Creat p content) t f
  FailsIn c (Link p target) t f = FailsHere (Link p target) t f
  FailsIn c (Rm p) t f = FailsHere (Rm p) t f
  FailsIn c (Cp from p) t f = FailsHere (Cp from p) t f
  FailsIn c (Steps es) t f = FailInSteps c es t f
  FailsIn c (If a e g) t f = (IsTrue (holds a t) × FailsIn (Some (Not a, t)) e t f) ⊎ ((IsTrue (holds a t) → ⊥) × FailsIn (Some (a, t)) g t f)

  pub FailInSteps : Choice → Programs → Tree → Failure → Type 0
  FailInSteps c none t f = ⊥
  FailInSteps c (next e es) t f = FailsIn c e t f ⊎ ((u : Tree) × (run e t ≡ Some u) × FailInSteps c es u f)

-- of a whole program, which stands in no choice
abbrev pub FailsAt : Program → Tree → Failure → Type 0
FailsAt = FailsIn None
