-- What a program does to what cells tell, place by place. Laws tie it to what it does to a tree.
use Rattle.std.specs.Prelude.{ℕ, Bool, true, false, not, ◌&&◌, ◌||◌, ◌==◌, if◌then◌else◌, List, [], ◌∷◌, ◌++◌, Option, Some, None}
use Rattle.fs_semantics.specs.FileTree.{Path, parent}
use Rattle.fs_semantics.specs.Programs.{Test, True, False, Not, And, Or, IsFile, IsLink, IsDir, IsEmpty, IsNone, Program, Programs, Id, Err, Mkdir, Creat, Link, Rm, Cp, Steps, If, none, next}
use Rattle.fs_interpreter.specs.Places.{Listed, place_in, children_in, number_in}
use Rattle.fs_interpreter.specs.States.{Cell, State}

-- what cells tell, by place
abbrev pub Cellwise : Type 0
Cellwise = ℕ → Cell

-- whether a file, a link, a folder or nothing is at a place; the root, which has no place, is a folder
abbrev pub file_at : Option ℕ → Cellwise → Bool
file_at None cell = false
file_at (Some i) cell = (cell i).present && (not (cell i).folder && not (cell i).link)

abbrev pub link_at : Option ℕ → Cellwise → Bool
link_at None cell = false
link_at (Some i) cell = (cell i).present && (not (cell i).folder && (cell i).link)

abbrev pub dir_at : Option ℕ → Cellwise → Bool
dir_at None cell = true
dir_at (Some i) cell = (cell i).present && (cell i).folder

abbrev pub none_at : Option ℕ → Cellwise → Bool
none_at None cell = false
none_at (Some i) cell = not (cell i).present

-- an entry is at one of these places
abbrev pub any_present : List ℕ → Cellwise → Bool
any_present [] cell = false
any_present (i ∷ is) cell = (cell i).present || any_present is cell

-- a folder without children is there
abbrev pub empty_at : Option ℕ → List ℕ → Cellwise → Bool
empty_at o children cell = dir_at o cell && not (any_present children cell)

-- whether the test holds of what is told
abbrev pub holds_in : Listed → Test → Cellwise → Bool
holds_in table True cell = true
holds_in table False cell = false
holds_in table (Not a) cell = not (holds_in table a cell)
holds_in table (And a b) cell = holds_in table a cell && holds_in table b cell
holds_in table (Or a b) cell = holds_in table a cell || holds_in table b cell
holds_in table (IsFile p) cell = file_at (place_in table.paths p) cell
holds_in table (IsLink p) cell = link_at (place_in table.paths p) cell
holds_in table (IsDir p) cell = dir_at (place_in table.paths p) cell
holds_in table (IsEmpty p) cell = empty_at (place_in table.paths p) (children_in table.paths p) cell
holds_in table (IsNone p) cell = none_at (place_in table.paths p) cell

-- one cell is another, the rest stay
abbrev pub with_cell : ℕ → Cell → Cellwise → Cellwise
with_cell i c cell j = if j == i then c else cell j

-- the same, with Error
abbrev pub failed : State → State
failed s = record { cell = s.cell; error = true }

-- the cell is put there, and where the condition doesn't hold this is Error
abbrev pub put : Option ℕ → Bool → Cell → State → State
put None ok c s = failed s
put (Some i) ok c s = record { cell = with_cell i c s.cell; error = s.error || not ok }

-- no entry is there and its parent is a folder
abbrev pub free_at : Listed → Path → Cellwise → Bool
free_at table p cell = none_at (place_in table.paths p) cell && dir_at (place_in table.paths (parent p)) cell

-- the cell of a folder
abbrev pub folder_cell : Cell
folder_cell = record { present = true; folder = true; link = false; content = 0 }

-- the cell of a file whose content has number n
abbrev pub file_cell : ℕ → Cell
file_cell n = record { present = true; folder = false; link = false; content = n }

-- the cell of a link whose target has number n
abbrev pub link_cell : ℕ → Cell
link_cell n = record { present = true; folder = false; link = true; content = n }

-- a file, a link or an empty folder goes
abbrev pub removed_at : Option ℕ → List ℕ → State → State
removed_at None children s = failed s
removed_at (Some i) children s =
    put (Some i) ((s.cell i).present && not ((s.cell i).folder && any_present children s.cell)) (record (s.cell i) { present = false }) s

-- the file at the one place comes to the other
abbrev pub copied_at : Option ℕ → Option ℕ → Bool → State → State
copied_at None q free s = failed s
copied_at (Some i) q free s = put q (file_at (Some i) s.cell && free) (file_cell (s.cell i).content) s

-- what a program leaves
abbrev mutual
  pub stepped : Listed → Program → State → State
  stepped table Id s = s
  stepped table Err s = failed s
  stepped table (Mkdir p) s = put (place_in table.paths p) (free_at table p s.cell) folder_cell s
  stepped table (Creat p content) s = put (place_in table.paths p) (free_at table p s.cell) (file_cell (number_in table.contents content)) s
  stepped table (Link p target) s = put (place_in table.paths p) (free_at table p s.cell) (link_cell (number_in table.contents target)) s
  stepped table (Rm p) s = removed_at (place_in table.paths p) (children_in table.paths p) s
  stepped table (Cp p q) s = copied_at (place_in table.paths p) (place_in table.paths q) (free_at table q s.cell) s
  stepped table (Steps es) s = all_stepped table es s
  stepped table (If a e f) s = if holds_in table a s.cell then stepped table e s else stepped table f s

  pub all_stepped : Listed → Programs → State → State
  all_stepped table none s = s
  all_stepped table (next e es) s = all_stepped table es (stepped table e s)

-- the place, if there is one
abbrev pub if_any : Option ℕ → List ℕ
if_any None = []
if_any (Some i) = i ∷ []

-- the places at which a program may write
abbrev mutual
  pub written : List Path → Program → List ℕ
  written paths Id = []
  written paths Err = []
  written paths (Mkdir p) = if_any (place_in paths p)
  written paths (Creat p content) = if_any (place_in paths p)
  written paths (Link p target) = if_any (place_in paths p)
  written paths (Rm p) = if_any (place_in paths p)
  written paths (Cp p q) = if_any (place_in paths q)
  written paths (Steps es) = all_written paths es
  written paths (If a e f) = written paths e ++ written paths f

  pub all_written : List Path → Programs → List ℕ
  all_written paths none = []
  all_written paths (next e es) = written paths e ++ all_written paths es
