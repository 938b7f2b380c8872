-- What cells of truth values tell.
use Rattle.std.specs.Prelude.{ℕ, Bool, false, List, Option, Some, None, IsTrue}
use Rattle.std.specs.FinMap as map
use Rattle.fs_semantics.specs.FileTree.{Path, Tree, Entry, HasText}
use Rattle.fs_interpreter.specs.Meanings.{plain_meanings}
use Rattle.fs_interpreter.specs.Places.{Listed, HasPath, HasContent}
use Rattle.fs_interpreter.specs.States.{Cell, State, state_of}
use Rattle.fs_interpreter.specs.declared.cells.Cells.{Cells}
use Rattle.fs_replay.specs.declared.told.Told.{Told}

-- the cell with these values
abbrev pub cell_of : Told → Cell
cell_of t = record { present = t.present; folder = t.folder; link = t.link; content = t.content }

-- there are no inputs, so any valuation serves
abbrev pub plain_state : {B : Type 0} → Cells B Bool ℕ → State
plain_state cells = state_of plain_meanings (λ n. false) cells

-- the tree with this entry, if it is one
abbrev pub with_entry : Tree → Path → Option Entry → Tree
with_entry t p None = t
with_entry t p (Some x) = map.insert t p x

-- the paths and contents of the tree are in the table
pub record HasTree (table : Listed) (t : Tree) : Type 0 where
  pub paths : (p : Path) → IsTrue (map.contains_key t p) → HasPath table p
  pub contents : (p : Path) (text : List ℕ) → HasText (map.get t p) text → HasContent table text

-- the table has the path, and the content or target
pub record HasNode (table : Listed) (p : Path) (x : Entry) : Type 0 where
  pub path : HasPath table p
  pub text : (text : List ℕ) → HasText (Some x) text → HasContent table text
