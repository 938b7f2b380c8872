-- The edits of files by resources.
use Rattle.std.specs.Prelude.{◌≡◌, ℕ, ◌==◌, ◌+◌, not, if◌then◌else◌, List, [], ◌∷◌, ◌++◌, map, filter, slice_get, Option, Some, None}
use Rattle.std.specs.List.{AllByRecursion}
use Rattle.fs_semantics.specs.FileTree.{Path, IsSegment, path_eq}
use Rattle.fs_lang.specs.PathText.{path_text}
use Rattle.pp_value.specs.Keys.{value_at, with_pair}
use Rattle.assumed_models.specs.declared.edits.Edit.{Edit}

-- those of other resources than the one at a place
abbrev pub edits_beside : ℕ → List Edit → List Edit
edits_beside place edits = filter (λ e. not (e.place == place)) edits

-- their marks
abbrev pub marks_in : List Edit → List Path
marks_in edits = map (λ e. e.mark) edits

-- the marks of the edits of a path, in their order
abbrev pub marks_of : List Edit → Path → List Path
marks_of edits p = marks_in (filter (λ e. path_eq e.path p) edits)

-- ---- how edits are found

-- the places of the edits of a path, counted from n on
abbrev pub places_of : ℕ → Path → List Edit → List ℕ
places_of n p [] = []
places_of n p (e ∷ edits) = if path_eq e.path p then n ∷ places_of (n + 1) p edits else places_of (n + 1) p edits

abbrev pub or_none : Option (List ℕ) → List ℕ
or_none None = []
or_none (Some places) = places

-- the text of each path has the places of its edits
abbrev pub AreFound : List (List ℕ × List ℕ) → List Edit → Type 0
AreFound found edits = (p : Path) → AllByRecursion IsSegment p → or_none (value_at (path_text p) found) ≡ places_of 0 p edits

-- the same with one more place, that of an edit of a path
abbrev pub with_noted : Path → ℕ → List (List ℕ × List ℕ) → List (List ℕ × List ℕ)
with_noted p place found = with_pair (path_text p) (or_none (value_at (path_text p) found) ++ place ∷ []) found

-- the same with those of further edits, of which the first stands at a place
abbrev pub with_all_noted : ℕ → List Edit → List (List ℕ × List ℕ) → List (List ℕ × List ℕ)
with_all_noted place [] found = found
with_all_noted place (e ∷ edits) found = with_all_noted (place + 1) edits (with_noted e.path place found)

abbrev pub if_any : Option Edit → List Edit → List Edit
if_any None edits = edits
if_any (Some e) edits = e ∷ edits

-- the edits at these places
abbrev pub edits_at : List Edit → List ℕ → List Edit
edits_at edits [] = []
edits_at edits (n ∷ places) = if_any (slice_get edits n) (edits_at edits places)
