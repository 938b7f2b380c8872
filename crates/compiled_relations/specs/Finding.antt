-- What a reference of a compiled catalog finds.
use Rattle.std.specs.Prelude.{◌≡◌, ℕ, suc, ℤ, Bool, ◌&&◌, not, if◌then◌else◌, List, [], ◌∷◌, ◌++◌, map, slice_get, codes, Option, Some, None, option_map}
use Rattle.std.specs.List.{list_any, flat_map}
use Rattle.std.specs.Option.{option_to_list}
use Rattle.std.specs.Fmt.{signed_decimal}
use Rattle.std.specs.Str.{bytes_eq}
use Rattle.rh_base.specs.Reading.{◌>>=◌}
use Rattle.fs_lang.specs.PathText.{path_text}
use Rattle.fs_lang.specs.Reading.{path_in}
use Rattle.pp_value.specs.declared.value.Ref.{Ref}
use Rattle.pp_value.specs.declared.value.Value.{Value, items-the_row-Value}
use Rattle.pp_value.specs.declared.value.Value.TheVariants as v
use Rattle.pp_value.specs.Values.{same_ref, value_at}
use Rattle.pp_eval.specs.Evaluation.{text_of}
use Rattle.compiled_text.specs.declared.catalog.CompiledResource.{CompiledResource}
use Rattle.compiled_text.specs.Compiled.{is_concat_file, counts_as}
use Rattle.compiled_text.specs.Reading.{is_empty, reference_of}

abbrev pub ref_to : List ℕ → List ℕ → Ref
ref_to kind title = record { kind = kind; title = title }

-- ---- what a resource may be called by

-- its type and title, and those as which it counts: those of the file at its path, where it puts one together of fragments
abbrev pub names_of : CompiledResource → List Ref
names_of r = r.id ∷ counts_as r ∷ []

-- the text that a value is, or the texts among the members of the list that it is
abbrev pub texts_of : Option Value → List (List ℕ)
texts_of None = []
texts_of (Some v.Undef) = []
texts_of (Some (v.Bool b)) = []
texts_of (Some (v.Int n)) = []
texts_of (Some (v.Str text)) = text ∷ []
texts_of (Some (v.List' shape row)) = flat_map (λ x. option_to_list (text_of x)) (items-the_row-Value _ row)
texts_of (Some (v.Map' keys row)) = []
texts_of (Some (v.Refer r)) = []
texts_of (Some v.Opaque) = []

-- its type with each of its aliases: the parameter `alias`, a text or a list
abbrev pub aliases_of : CompiledResource → List Ref
aliases_of r = map (ref_to r.id.kind) (texts_of (value_at (codes "alias") r.parameters))

-- the path that a text spells, as it is written: `/a/b` for `//a/b/`; none, where it spells none
abbrev pub written : List ℕ → Option (List ℕ)
written text = option_map path_text (path_in text)

-- a text, or this one where nothing is given or undef; another value is none
abbrev pub text_unless_undef : List ℕ → Option Value → Option (List ℕ)
text_unless_undef other None = Some other
text_unless_undef other (Some v.Undef) = Some other
text_unless_undef other (Some (v.Bool b)) = None
text_unless_undef other (Some (v.Int n)) = None
text_unless_undef other (Some (v.Str text)) = Some text
text_unless_undef other (Some (v.List' shape row)) = None
text_unless_undef other (Some (v.Map' keys row)) = None
text_unless_undef other (Some (v.Refer r)) = None
text_unless_undef other (Some v.Opaque) = None

-- a file that an agent applies as it is
abbrev pub is_file : CompiledResource → Bool
is_file r = bytes_eq r.id.kind (codes "file") && not r.is_container

-- The text of the path of a file: its parameter `path`, which has to be a text, or else its title. What is put together of fragments
-- counts as the file at its path.
abbrev pub path_text_of : CompiledResource → Option (List ℕ)
path_text_of r =
    if is_concat_file r then Some (counts_as r).title
    else (if is_file r then text_unless_undef r.id.title (value_at (codes "path") r.parameters) else None)

-- a file with its path, as that is written
abbrev pub paths_of : CompiledResource → List Ref
paths_of r = map (ref_to (codes "file")) (option_to_list (path_text_of r >>= written))

-- ---- what a reference finds

-- the first of these, if it is there, or else the second
abbrev pub or_else : {X : Type 0} → Option X → Option X → Option X
or_else None other = other
or_else (Some x) other = Some x

-- it is one of these
abbrev pub is_one : Ref → List Ref → Bool
is_one ref refs = list_any (same_ref ref) refs

-- the place of the first resource that may be called so
abbrev pub first_called : (CompiledResource → List Ref) → Ref → List CompiledResource → Option ℕ
first_called calls ref [] = None
first_called calls ref (r ∷ resources) = if is_one ref (calls r) then Some 0 else option_map suc (first_called calls ref resources)

-- the place of the first file at the path that the title of the reference to a file spells
abbrev pub at_path : Ref → List CompiledResource → Option ℕ
at_path ref resources = if bytes_eq ref.kind (codes "file") then written ref.title >>= (λ path. first_called paths_of (ref_to (codes "file") path) resources) else None

-- `T[X]` finds the resource with this type and title, or else the first one of the type whose alias is X, or else, of a file, the first
-- one whose path is that which X spells. A reference without a title, as `Class[::]`, finds nothing.
abbrev pub place_found : List CompiledResource → Ref → Option ℕ
place_found resources ref =
    if is_empty ref.title then None
    else or_else (first_called names_of ref resources) (or_else (first_called aliases_of ref resources) (at_path ref resources))

-- the reference as which the resource at a place counts in the catalog
abbrev pub reference_at : List CompiledResource → ℕ → Option Ref
reference_at resources place = option_map counts_as (slice_get resources place)

-- a resource counts as this reference
abbrev pub StandsIn : List CompiledResource → Ref → Type 0
StandsIn resources ref = (place : ℕ) × (reference_at resources place ≡ Some ref)

-- the reference, as the catalog has it, of what a reference finds
abbrev pub reference_found : List CompiledResource → Ref → Option Ref
reference_found resources ref = place_found resources ref >>= reference_at resources

-- the same of a text that is a reference; any other text finds nothing
abbrev pub found_by : List CompiledResource → List ℕ → Option Ref
found_by resources text = reference_of text >>= reference_found resources

-- ---- names in refusals

-- ` (FILE:LINE)`, where a resource has both
abbrev pub place_told : Option (List ℕ) → Option ℤ → List ℕ
place_told None line = []
place_told (Some file) None = []
place_told (Some file) (Some n) = codes " (" ++ (file ++ (codes ":" ++ (signed_decimal n ++ codes ")")))

-- a name that a refusal tells of a resource, and behind it the line of the manifest which declares that
abbrev pub name_and_line : CompiledResource → List ℕ → List ℕ
name_and_line r name = name ++ place_told r.file r.line
