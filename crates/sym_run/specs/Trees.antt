-- Trees over a domain that is laid out, and the trees that cells tell.
use Rattle.std.specs.Prelude.{ℕ, zero, suc, true, false, List, [], Option, Some, None, slice_index_or, if◌then◌else◌}
use Rattle.std.specs.FinMap as map
use Rattle.fs_semantics.specs.FileTree.{Entry, Folder, File, Link, Tree, IsTree}
use Rattle.finite_domain.specs.Shadows.{IsOver}
use Rattle.finite_domain.specs.Layouts.{domain_of}
use Rattle.path_domain.specs.declared.listed.Domain.{Domain}
use Rattle.path_domain.specs.Laid.{layout_of}
use Rattle.fs_interpreter.specs.Places.{Listed, number_in}
use Rattle.fs_interpreter.specs.States.{Cell}
use Rattle.fs_interpreter.specs.Steps.{Cellwise}
use Rattle.fs_replay.specs.Told.{with_entry}

-- a file tree whose paths and contents are those of the domain
pub record IsTreeOver (d : Domain) (t : Tree) : Type 0 where
  pub is_tree : IsTree t
  pub is_over : IsOver (domain_of (layout_of d)) t

-- the entry that a cell tells
abbrev pub entry_in : List (List ℕ) → Cell → Option Entry
entry_in contents c = if c.present then Some
    (if c.folder then Folder else
    (if c.link then Link (slice_index_or contents c.content []) else File
    (slice_index_or contents c.content []))) else None

-- the tree that the cells at the first n places tell
abbrev pub grown : Listed → Cellwise → ℕ → Tree
grown table cell zero = map.empty
grown table cell (suc n) = with_entry (grown table cell n) (slice_index_or table.paths n []) (entry_in table.contents (cell n))

-- the cell that tells an entry
abbrev pub cell_for : List (List ℕ) → Option Entry → Cell
cell_for contents None = record { present = false; folder = false; link = false; content = 0 }
cell_for contents (Some Folder) = record { present = true; folder = true; link = false; content = 0 }
cell_for contents (Some (File c)) = record { present = true; folder = false; link = false; content = number_in contents c }
cell_for contents (Some (Link c)) = record { present = true; folder = false; link = true; content = number_in contents c }
