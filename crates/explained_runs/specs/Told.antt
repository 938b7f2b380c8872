-- What is told of runs that part, and what holds where it is told.
use Rattle.std.specs.Prelude.{◌≡◌, ◌⊎◌, ℕ, List, [], Some, None, codes}
use Rattle.fs_semantics.specs.FileTree.{Path, Tree}
use Rattle.fs_semantics.specs.Programs.{Program, Outcome}
use Rattle.fs_semantics.specs.Orders.{IsLinearExtension, IsExchange, outcome}
use Rattle.given_hosts.specs.Given.{IsCounterexampleFrom, IsSecondRunCounterexampleFrom}
use Rattle.orders.specs.Relation.{Relation, Comes}
use Rattle.orders.specs.Extensions.{TakesLeast}
use Rattle.failure_semantics.specs.Failures.{Failure, Explains}
use Rattle.failure_semantics.specs.Orders.{OrderFailsAt, EndsShortestFront}
use Rattle.tree_differences.specs.Differences.{Difference, AreDifferences}
use Rattle.explained_text.specs.Lines.{fails_words, difference_lines}
use Rattle.verdict_text.specs.Lines.{name_at}
use Rattle.explained_runs.specs.GivenTree.{IsOfGiven}
use Rattle.explained_runs.specs.Lines.{from_line, apart_lines, again_lines}

-- ---- how a run ends

-- The run of the order ends in a tree.
pub record SaysItEnds (es : List Program) (order : List ℕ) (t : Tree) (words : List ℕ) : Type 0 where
  pub after : Tree
  pub ends : outcome es order t ≡ Some after
  pub is : words ≡ codes "ends"

-- The run of the order ends in Error. What is told is the name of the resource at which it does, the last one of the
-- shortest front of the order whose outcome is Error; the construct of its program that gave Error; and a reason that holds
-- of this construct in the tree in which it was tried.
pub record SaysWhereItFails (names : List (List ℕ)) (es : List Program) (order : List ℕ) (t : Tree) (words : List ℕ) : Type 0 where
  pub resource : ℕ
  pub last : EndsShortestFront es order t resource
  pub failure : Failure
  pub fails : OrderFailsAt es order t resource failure
  pub reason : Explains failure.construct failure.reason failure.tree
  pub is : words ≡ fails_words (name_at names resource) failure.construct failure.reason

-- How the run of the order from the tree ends. The resources have these names.
abbrev pub TellsHow : List (List ℕ) → List Program → List ℕ → Tree → List ℕ → Type 0
TellsHow names es order t words = SaysItEnds es order t words ⊎ SaysWhereItFails names es order t words

-- ---- where outcomes differ

-- a line for each path at which two trees differ, and for no other, in the order of the bytes of the paths' texts
pub record ListsDifferences (t u : Tree) (lines : List ℕ) : Type 0 where
  pub list : List Difference
  pub exactly : AreDifferences t u list
  pub are : lines ≡ difference_lines list

-- where both outcomes are trees, the lines on their differences, else none
abbrev pub ListsWhere : Outcome → Outcome → List ℕ → Type 0
ListsWhere (Some t) (Some u) lines = ListsDifferences t u lines
ListsWhere (Some t) None lines = lines ≡ []
ListsWhere None (Some u) lines = lines ≡ []
ListsWhere None None lines = lines ≡ []

-- ---- runs that part

-- Two allowed orders end apart from a tree in which the given folders stand, and the second is the first with two free neighbours
-- exchanged. What is told are these two, the one that comes first in the first order ahead; the tree; how each run ends; and the
-- paths at which the outcomes differ.
pub record TellsApart (given : List Path) (names : List (List ℕ)) (es : List Program) (order : Relation) (lines : List ℕ) : Type 0 where
  pub tree : Tree
  pub left : List ℕ
  pub right : List ℕ
  pub counterexample : IsCounterexampleFrom given es (Comes order) tree left right
  pub exchange : IsExchange (Comes order) left right
  pub how : List ℕ
  pub first : TellsHow names es left tree how
  pub other : List ℕ
  pub second : TellsHow names es right tree other
  pub list : List ℕ
  pub differences : ListsWhere (outcome es left tree) (outcome es right tree) list
  pub are : lines ≡ apart_lines (name_at names exchange.left) (name_at names exchange.right) tree how other list

-- A run in this allowed order, from a tree in which the given folders stand, ends in a tree that a second run in it doesn't leave as it
-- is. What is told is the tree from which the first began; how the second ends; and the paths at which the second changed what the
-- first left.
pub record TellsAgain (given : List Path) (names : List (List ℕ)) (es : List Program) (order : Relation)
    (turns lines : List ℕ) : Type 0 where
  pub tree : Tree
  pub counterexample : IsSecondRunCounterexampleFrom given es (Comes order) tree turns
  pub how : List ℕ
  pub second : TellsHow names es turns counterexample.shows.after how
  pub list : List ℕ
  pub differences : ListsWhere (Some counterexample.shows.after) (outcome es turns counterexample.shows.after) list
  pub are : lines ≡ again_lines tree how list

-- Where the first extension fails from the tree of the given folders alone; where none is given, from the tree without entries.
pub record TellsFromNothing (given : List Path) (names : List (List ℕ)) (es : List Program) (order : Relation)
    (line : List ℕ) : Type 0 where
  pub first : List ℕ
  pub allowed : IsLinearExtension order.count (Comes order) first
  pub least : TakesLeast order.count (Comes order) [] first
  pub tree : Tree
  pub alone : IsOfGiven given tree
  pub words : List ℕ
  pub fails : SaysWhereItFails names es first tree words
  pub is : line ≡ from_line tree words
