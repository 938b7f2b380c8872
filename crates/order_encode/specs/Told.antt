-- What cells tell of a wanted entry.
use Rattle.std.specs.Prelude.{ℕ, ◌==◌, Bool, false, not, ◌&&◌, List, Option, Some, None}
use Rattle.fs_interpreter.specs.Places.{Listed, place_in, content_place}
use Rattle.fs_interpreter.specs.States.{Cell}
use Rattle.fs_interpreter.specs.Steps.{Cellwise}
use Rattle.wanted_entry.specs.declared.wanted.Wanted.{Wanted}

-- a file whose content has this number stands there; none does whose content has no number
abbrev pub is_file_of : Option ℕ → Cell → Bool
is_file_of None c = false
is_file_of (Some n) c = c.present && ((not c.folder && not c.link) && (c.content == n))

-- a file with this content stands there; where no content is given, anything does
abbrev pub entry_told : List (List ℕ) → Option (List ℕ) → Cell → Bool
entry_told contents None c = c.present
entry_told contents (Some content) c = is_file_of (content_place contents content) c

-- the same at a place, if there is one
abbrev pub told_at : List (List ℕ) → Option (List ℕ) → Option ℕ → Cellwise → Bool
told_at contents content None cell = false
told_at contents content (Some i) cell = entry_told contents content (cell i)

-- the wanted entry is told
abbrev pub wanted_told : Listed → Wanted → Cellwise → Bool
wanted_told table w cell = told_at table.contents w.content (place_in table.paths w.path) cell
