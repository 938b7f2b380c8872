-- What a resource does of which a behavior is assumed.
use Rattle.std.specs.Prelude.{ℕ, ◌==◌, ◌&&◌, ◌||◌, Bool, not, if◌then◌else◌, List, [], ◌∷◌, ◌++◌, length, map, filter, codes, Option, Some, None, Result, Ok, Err}
use Rattle.std.specs.List.{flat_map}
use Rattle.fs_semantics.specs.FileTree.{Path}
use Rattle.fs_semantics.specs.Programs.{Program, Id, If, IsNone}
use Rattle.fs_lang.specs.PathText.{path_text}
use Rattle.fs_lang.specs.Names.{segment_of}
use Rattle.pp_value.specs.declared.value.Value.TheVariants as v
use Rattle.pp_value.specs.Values.{Pair}
use Rattle.pp_value.specs.Shown.{shown_ref}
use Rattle.catalog_semantics.specs.declared.catalog.Resource.{Resource}
use Rattle.catalog_semantics.specs.Attributes.{is_metaparameter}
use Rattle.catalog_text.specs.Json.{json}
use Rattle.model_semantics.specs.declared.kinds.Cause.{Cause}
use Rattle.model_semantics.specs.declared.kinds.Cause.TheVariants as cause
use Rattle.model_semantics.specs.Words.{sequence, dir, dirs, put, drop_file, need, mark_path}
use Rattle.model_semantics.specs.Names.{is_name}
use Rattle.assumed_text.specs.declared.assumed.Behavior.{Behavior}

-- ---- what a resource writes

-- the attributes that say nothing of the order
abbrev pub own_attributes : List Pair → List Pair
own_attributes attrs = filter (λ p. not (is_metaparameter p.0)) attrs

-- these as compact JSON: what is written by two resources is alike only where they have the same attributes
abbrev pub attributes_text : Resource → List ℕ
attributes_text r = json (v.Map (own_attributes r.attrs))

-- what a file has that a resource makes: the resource's own reference, the file's path, and its attributes
abbrev pub made_content : Resource → Path → List ℕ
made_content r p = codes "made:" ++ (shown_ref r.id ++ (codes ":" ++ (path_text p ++ (codes ":" ++ attributes_text r))))

-- the file that stands for an edit of a file by a resource
abbrev pub edit_mark : Resource → Path → Path
edit_mark r p = mark_path (codes "edit") (segment_of (path_text p) ∷ segment_of (shown_ref r.id) ∷ [])

-- ---- the steps

-- a folder, and those above it
abbrev pub folder_made : Path → List Program
folder_made p = dirs p ++ dir p ∷ []

-- a file that is written whole
abbrev pub file_made : Resource → Path → Program
file_made r p = put p (made_content r p)

-- An edit needs the file. Its mark stands for the part of the file that the resource changes.
abbrev pub file_edited : Resource → Path → List Program
file_edited r p = need p ∷ (dirs (edit_mark r p) ++ put (edit_mark r p) (attributes_text r) ∷ [])

-- what is needed, then the folders, then what is made, then the edits, and then what is removed
abbrev pub steps_of : Resource → Behavior → List Program
steps_of r b = map need b.needs ++
    (flat_map folder_made b.folders ++
    (map (file_made r) b.makes ++ (flat_map (file_edited r) b.edits ++ map drop_file b.removes)))

-- ---- the program

-- only where nothing stands at the path, if there is one
abbrev pub unless_there : Option Path → Program → Program
unless_there None e = e
unless_there (Some c) e = If (IsNone c) e Id

abbrev pub are_none : List Path → Bool
are_none paths = length paths == 0

-- it makes or edits a file
abbrev pub writes_files : Behavior → Bool
writes_files b = not (are_none b.makes) || not (are_none b.edits)

-- The program of a behavior. A resource that makes or edits a file is told by its reference, which has to be a name then.
abbrev pub program_of_behavior : Resource → Behavior → Result Program Cause
program_of_behavior r b = if writes_files b && not (is_name (shown_ref r.id)) then Err cause.Name else Ok
    (unless_there b.creates (sequence (steps_of r b)))
