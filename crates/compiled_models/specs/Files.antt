-- What a file of a compiled catalog does.
use Rattle.std.specs.Prelude.{Bool, true, false, not, ◌&&◌, ◌||◌, if◌then◌else◌, List, [], ◌∷◌, ◌++◌, filter, codes, Result, Ok}
use Rattle.std.specs.Str.{bytes_eq}
use Rattle.fs_semantics.specs.FileTree.{Path}
use Rattle.fs_semantics.specs.Programs.{Program, Id, Creat, Cp, If, IsNone}
use Rattle.pp_value.specs.Values.{Pair, value_at, passes}
use Rattle.catalog_semantics.specs.declared.catalog.Resource.{Resource}
use Rattle.model_semantics.specs.declared.kinds.Cause.{Cause}
use Rattle.model_semantics.specs.declared.states.Ensure.{Ensure}
use Rattle.model_semantics.specs.declared.states.FileState.{FileState}
use Rattle.model_semantics.specs.declared.states.FileState.TheVariants as file
use Rattle.model_semantics.specs.Attributes.{truth_of, is_false, is_link}
use Rattle.model_semantics.specs.Rows.{file_row}
use Rattle.model_semantics.specs.Models.{Model, model, file_state, copies_reserved}
use Rattle.model_semantics.specs.Names.{◌>>=◌, text_or, spelled, is_reserved, unless_reserved}

-- ---- `replace` false

-- what stands there already stays as it is
abbrev pub is_spared : Resource → Bool
is_spared r = passes (λ x. is_false (truth_of x)) (value_at (codes "replace") r.attrs)

-- the attributes but `replace`
abbrev pub without_replace : List Pair → List Pair
without_replace attrs = filter (λ p. not (bytes_eq p.0 (codes "replace"))) attrs

-- A file may say `replace` false, unless it is a link.
abbrev pub attributes_asked : Ensure → Resource → List Pair
attributes_asked e r = if is_spared r && not (is_link e) then without_replace r.attrs else r.attrs

-- puts this where nothing stands
abbrev pub where_none : Path → Program → Program
where_none p e = If (IsNone p) e Id

-- the program of a file that is put only where nothing stands; one that has nothing to put is as any other
abbrev pub spared_row : Path → FileState → Program
spared_row p (file.Content content) = where_none p (Creat p content)
spared_row p (file.Copied from) = where_none p (Cp from p)
spared_row p (file.Fetched address) = where_none p (Creat p (codes "source:" ++ address))
spared_row p state = file_row p state

-- the program of a file in a state
abbrev pub row_of : Bool → Path → FileState → Program
row_of true p state = spared_row p state
row_of false p state = file_row p state

-- the model of a file, whose place is its path
abbrev pub file_model : Ensure → Resource → Result Model Cause
file_model e r = do
  p ← spelled (text_or (codes "path") r.id.title r.attrs)
  state ← file_state e r.attrs
  _ ← unless_reserved (is_reserved p || copies_reserved state)
  Ok (model p (row_of (is_spared r) p state ∷ []))
