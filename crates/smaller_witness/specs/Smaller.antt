-- What a tree shows, and what is left of it.
use Rattle.std.specs.Prelude.{◌≡◌, ◌≢◌, ◌<◌, ℕ, List, Some, None}
use Rattle.std.specs.List.{AllByRecursion}
use Rattle.std.specs.FinMap as map
use Rattle.fs_semantics.specs.FileTree.{Path, Entry, Tree}
use Rattle.fs_semantics.specs.Programs.{Program, Outcome, run}
use Rattle.fs_semantics.specs.Orders.{outcome}
use Rattle.smaller_witness.specs.declared.question.Question.{Question}
use Rattle.smaller_witness.specs.declared.question.Question.TheVariants as question

-- what stands in the first stands in the second
abbrev pub IsWithin : Tree → Tree → Type 0
IsWithin u t = (p : Path) (x : Entry) → map.get u p ≡ Some x → map.get t p ≡ Some x

-- each is the number of one of n programs
abbrev pub AreBelow : ℕ → List ℕ → Type 0
AreBelow n order = AllByRecursion (λ i. i < n) order

-- two orders end apart from the tree
abbrev pub EndApart : List Program → List ℕ → List ℕ → Tree → Type 0
EndApart es left right t = outcome es left t ≢ outcome es right t

-- a first run in the order ends in a tree that a second one doesn't leave as it is
abbrev pub ChangesAgain : List Program → List ℕ → Tree → Type 0
ChangesAgain es order t = (u : Tree) × (outcome es order t ≡ Some u) × (outcome es order u ≢ Some u)

-- ---- within the crate

-- the tree shows what is asked
abbrev pub Shows : List Program → Question → Tree → Type 0
Shows es (question.Apart left right) t = EndApart es left.now right.now t
Shows es (question.Again order) t = ChangesAgain es order.now t

-- the orders are of so many programs
abbrev pub IsAnswerable : ℕ → Question → Type 0
IsAnswerable n (question.Apart left right) = AreBelow n left.now × AreBelow n right.now
IsAnswerable n (question.Again order) = AreBelow n order.now

-- where the program ends, what it leaves stood there before
abbrev pub OnlyRemoves : Program → Type 0
OnlyRemoves e = (t u : Tree) → run e t ≡ Some u → IsWithin u t

-- the outcome is Error, or a tree of what stood there before
abbrev pub EndsWithin : Tree → Outcome → Type 0
EndsWithin t None = Unit {0}
EndsWithin t (Some u) = IsWithin u t
