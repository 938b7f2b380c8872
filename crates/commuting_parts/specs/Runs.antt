-- What programs and lists of steps do, and how two of them meet.
use Rattle.std.specs.Prelude.{◌≡◌, Some}
use Rattle.fs_semantics.specs.FileTree.{Tree}
use Rattle.fs_semantics.specs.Programs.{Test, Outcome, and_then, holds}

-- what is done to a tree, and how it ends
abbrev pub Run : Type 0
Run = Tree → Outcome

-- first the one, then the other
abbrev pub thens : Run → Run → Run
thens f g t = and_then (f t) g

-- from every such tree the two end alike
abbrev pub SameFrom : (Tree → Type 0) → Run → Run → Type 0
SameFrom P f g = (t : Tree) → P t → f t ≡ g t

-- from every such tree the two end alike in either order
abbrev pub SwapFrom : (Tree → Type 0) → Run → Run → Type 0
SwapFrom P f g = SameFrom P (thens f g) (thens g f)

-- where it ends in a tree, from a tree with the first, that tree has the second
abbrev pub LeadsTo : (Tree → Type 0) → (Tree → Type 0) → Run → Type 0
LeadsTo P Q f = (t u : Tree) → P t → f t ≡ Some u → Q u

-- where it ends in a tree, the test holds there exactly where it held before
abbrev pub LeavesTest : (Tree → Type 0) → Test → Run → Type 0
LeavesTest P c f = (t u : Tree) → P t → f t ≡ Some u → holds c u ≡ holds c t
