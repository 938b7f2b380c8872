-- When cells stand for a tree over a table.
use Rattle.std.specs.Prelude.{ℕ, zero, suc, Bool, true, ◌&&◌, nat_lt, length, if◌then◌else◌, slice_index_or, Option, []}
use Rattle.fs_semantics.specs.FileTree.{parent}
use Rattle.fs_interpreter.specs.Places.{Listed, place_in}
use Rattle.fs_interpreter.specs.States.{Cell}
use Rattle.fs_interpreter.specs.Steps.{Cellwise, dir_at}

-- where an entry is told, a folder is above it, and what is no folder has a content that is known
abbrev pub fits : Option ℕ → Bool → Cell → Cellwise → Bool
fits above known c cell = if c.present then dir_at above cell && (if c.folder then true else known) else true

-- the cell at a place fits
abbrev pub fits_at : Listed → Cellwise → ℕ → Bool
fits_at table cell i = fits (place_in table.paths (parent (slice_index_or table.paths i [])))
    (nat_lt (cell i).content (length table.contents)) (cell i) cell

-- the cells at the first n places fit
abbrev pub all_fit : Listed → Cellwise → ℕ → Bool
all_fit table cell zero = true
all_fit table cell (suc n) = all_fit table cell n && fits_at table cell n
