-- What the native resources of a compiled catalog do.
use Rattle.std.specs.Prelude.{ℕ, Bool, true, false, not, ◌&&◌, ◌||◌, if◌then◌else◌, List, [], ◌∷◌, ◌++◌, map, slice_get, codes, Option, Some, None, option_and_then, Result, Ok, Err}
use Rattle.std.specs.List.{list_any, flat_map}
use Rattle.std.specs.Option.{option_or}
use Rattle.std.specs.Str.{bytes_eq}
use Rattle.rh_base.specs.declared.fault.Refusal.{Refusal}
use Rattle.fs_semantics.specs.FileTree.{Path, path_eq}
use Rattle.fs_semantics.specs.Programs.{Program, Id}
use Rattle.fs_lang.specs.Reading.{path_in}
use Rattle.pp_value.specs.declared.value.Value.TheVariants as v
use Rattle.pp_value.specs.Values.{Pair, value_at, with_pair}
use Rattle.pp_value.specs.Shown.{shown_ref}
use Rattle.pp_eval.specs.Evaluating.{refusal}
use Rattle.catalog_semantics.specs.declared.catalog.Resource.{Resource}
use Rattle.catalog_semantics.specs.Attributes.{is_one_of}
use Rattle.pkg_listing.specs.Packages.{Packages}
use Rattle.given_links.specs.declared.links.GivenLink.{GivenLink}
use Rattle.given_links.specs.Reading.{read_as, program_read_as}
use Rattle.model_semantics.specs.declared.kinds.Kind.{Kind}
use Rattle.model_semantics.specs.declared.kinds.Kind.TheVariants as kind
use Rattle.model_semantics.specs.declared.kinds.Cause.{Cause}
use Rattle.model_semantics.specs.declared.kinds.Cause.TheVariants as cause
use Rattle.model_semantics.specs.declared.states.Ensure.{Ensure}
use Rattle.model_semantics.specs.declared.states.States.{States}
use Rattle.model_semantics.specs.Words.{sequence}
use Rattle.model_semantics.specs.Attributes.{kind_of, states_of, attributes_fit, unless_refused}
use Rattle.model_semantics.specs.Models.{Model, model_at, if_modelled, unless_barred, if_new, first_and}
use Rattle.model_semantics.specs.Names.{◌>>=◌, text_at, is_true, truth_in}
use Rattle.compiled_text.specs.declared.catalog.CompiledResource.{CompiledResource}
use Rattle.compiled_attributes.specs.Fragments.{why_unfilled}
use Rattle.compiled_attributes.specs.Attributes.{is_noop}
use Rattle.compiled_relations.specs.Finding.{name_and_line}
use Rattle.assumed_text.specs.declared.assumed.Assumed.{Assumed}
use Rattle.assumed_text.specs.declared.assumed.Assumed.TheVariants.{Nothing, Refused, Does}
use Rattle.assumed_text.specs.declared.assumed.Assumption.{Assumption}
use Rattle.assumed_models.specs.declared.edits.Edit.{Edit}
use Rattle.assumed_models.specs.Behaviors.{program_of_behavior, edit_mark}
use Rattle.assumed_models.specs.Edits.{edits_beside, marks_of}
use Rattle.assumed_models.specs.LostEdits.{with_lost_edits}
use Rattle.compiled_models.specs.Assumed.{assumed_at}
use Rattle.compiled_models.specs.Files.{attributes_asked, file_model}

-- ---- the resources

-- A native resource: its place, as the text tells it, and as it stands in the catalog.
pub record Native : Type 0 where
  pub place : ℕ
  pub text : CompiledResource
  pub resource : Resource

-- What stands beside them: all resources of the text, what is assumed, the listing, and the links that every host has.
pub record Setting : Type 0 where
  pub resources : List CompiledResource
  pub assumptions : List Assumption
  pub listing : Packages
  pub links : List GivenLink

-- ---- what is assumed

abbrev pub assumed_of : Setting → Native → Option Assumed
assumed_of s n = assumed_at s.resources s.assumptions n.place n.text

-- the program that is assumed, or why there is none; nothing, where nothing is assumed
abbrev pub program_assumed : Resource → Option Assumed → Option (Result Program Cause)
program_assumed r None = None
program_assumed r (Some Nothing) = Some (Ok Id)
program_assumed r (Some Refused) = None
program_assumed r (Some (Does b)) = Some (program_of_behavior r b)

-- ---- what does nothing

-- types that only order others, or say how others are to be applied
abbrev pub idle_types : List (List ℕ)
idle_types = codes "notify" ∷ codes "anchor" ∷ codes "filebucket" ∷ codes "schedule" ∷ codes "whit" ∷ codes "concat_fragment" ∷ []

-- `resources` removes what isn't declared where it says `purge` true, and else nothing
abbrev pub is_idle : Resource → Bool
is_idle r = is_one_of idle_types r.id.kind || (bytes_eq r.id.kind (codes "resources") && not (is_true (truth_in (value_at (codes "purge") r.attrs))))

-- the program that a resource has whatever its model is: what is assumed of it, and none where it isn't to be changed or is idle
abbrev pub program_told : Setting → Native → Option (Result Program Cause)
program_told s n = option_or (program_assumed n.resource (assumed_of s n))
    (if is_noop n.text || is_idle n.resource then Some (Ok Id) else None)

-- ---- edits

-- the edit of a file by a resource: the file's path, as it is read through the links, and the mark of the edit
abbrev pub edit_at : List GivenLink → Native → Path → Edit
edit_at links n p = record { place = n.place; path = read_as links p; mark = edit_mark n.resource p }

abbrev pub edits_by : List GivenLink → Native → Option Assumed → List Edit
edits_by links n None = []
edits_by links n (Some Nothing) = []
edits_by links n (Some Refused) = []
edits_by links n (Some (Does b)) = map (edit_at links n) b.edits

-- the edits of all of these, in their order
abbrev pub edits_of : Setting → List Native → List Edit
edits_of s ns = flat_map (λ n. edits_by s.links n (assumed_of s n)) ns

-- ---- models

-- one of these edits is of this path, as it is read through the links
abbrev pub is_edited : List GivenLink → List Edit → Option Path → Bool
is_edited links edits None = false
is_edited links edits (Some p) = list_any (λ e. path_eq e.path (read_as links p)) edits

-- the source is a path that these edits change
abbrev pub copies_edited : List GivenLink → List Edit → Resource → Bool
copies_edited links edits r = is_edited links edits (option_and_then path_in (text_at (codes "source") r.attrs))

-- The attributes that are asked about. A copy is refused of what other resources edit, since nobody knows then what it has: no source is the
-- value that stands in its place.
abbrev pub attributes_with : Bool → List Pair → List Pair
attributes_with true attrs = with_pair (codes "source") v.Opaque attrs
attributes_with false attrs = attrs

-- the attributes of a resource of a type that has a model, as they are asked about
abbrev pub asked_of : List GivenLink → List Edit → Kind → Ensure → Resource → List Pair
asked_of links edits kind.File e r = attributes_with (copies_edited links edits r) (attributes_asked e r)
asked_of links edits _ e r = r.attrs

-- the model by the type
abbrev pub native_model : Kind → States → Packages → Resource → Result Model Cause
native_model kind.File s listing r = file_model s.ensure r
native_model k s listing r = model_at k s listing r

-- The states first, then the attributes, then that a file is put together of fragments which can't be told, and then names, paths and
-- packages.
abbrev pub model_of_kind : Setting → List Edit → Native → Kind → Result Model Cause
model_of_kind s edits n k = do
  states ← states_of k n.resource.attrs
  _ ← attributes_fit k states.ensure (asked_of s.links edits k states.ensure n.resource)
  _ ← unless_refused (why_unfilled s.resources n.text)
  native_model k states s.listing n.resource

-- the model of a resource, beside the edits of others
abbrev pub model_of : Setting → List Edit → Native → Result Model Cause
model_of s edits n = if_modelled (kind_of n.resource.id.kind) >>= model_of_kind s edits n

-- ---- refusals

-- the name of a resource, with the line of the manifest that declares it
abbrev pub name_told : Native → List ℕ
name_told n = name_and_line n.text (shown_ref n.resource.id)

-- the same of an attribute
abbrev pub attribute_told : Native → List ℕ → List ℕ
attribute_told n name = name_and_line n.text (shown_ref n.resource.id ++ (codes " " ++ name))

-- no model: what `exec` does can't be told, and other types aren't known
abbrev pub unmodelled : Native → Refusal
unmodelled n = refusal (if bytes_eq n.resource.id.kind (codes "exec") then 50 else 23) 0 (name_told n)

-- the rule that is broken, and the name that is told
abbrev pub refusal_of : Native → Cause → Refusal
refusal_of n cause.Unmodelled = unmodelled n
refusal_of n (cause.Attribute name) = refusal 51 0 (attribute_told n name)
refusal_of n cause.Name = refusal 52 0 (name_told n)
refusal_of n cause.Reserved = refusal 53 0 (name_told n)
refusal_of n cause.Unlisted = refusal 54 0 (name_told n)
refusal_of n cause.State = refusal 55 0 (name_told n)
refusal_of n cause.Twice = refusal 56 0 (name_told n)

-- ---- programs

-- a program, and the place that nothing else may have then, if any
abbrev pub Done : Type 0
Done = Program × List Path

-- the model's program and place, where nothing else has it
abbrev pub done_by : List GivenLink → List Path → Result Model Cause → Result Done Cause
done_by links seen found = found >>= unless_barred (map (λ l. l.path) links) >>= if_new seen >>= (λ m. Ok (sequence m.steps, m.place ∷ []))

-- what is told anyway, or what a model gives
abbrev pub done_with : Option (Result Program Cause) → Result Done Cause → Result Done Cause
done_with None modelled = modelled
done_with (Some (Ok e)) modelled = Ok (e, [])
done_with (Some (Err c)) modelled = Err c

-- what a resource does, behind those whose places are these
abbrev pub done_of : Setting → List Edit → List Path → Native → Result Done Cause
done_of s edits seen n = done_with (program_told s n) (done_by s.links seen (model_of s (edits_beside n.place edits) n))

-- the program, read through the links, in which edits by others are lost where the file is written anew
abbrev pub program_among : Setting → List Edit → Native → Program → Program
program_among s edits n e = with_lost_edits (marks_of (edits_beside n.place edits)) (program_read_as s.links e)

-- what was done, or the refusal for the cause
abbrev pub or_refused : Native → Result Done Cause → Result Done Refusal
or_refused n (Ok d) = Ok d
or_refused n (Err c) = Err (refusal_of n c)

-- this program and the others, unless one of those is refused
abbrev pub programs_with : (Program → Program) → Result Done Refusal → (List Path → Result (List Program) Refusal)
    → Result (List Program) Refusal
programs_with among (Err x) more = Err x
programs_with among (Ok d) more = first_and (among d.0) (more d.1)

-- the programs in order
abbrev pub programs_behind : Setting → List Edit → List Path → List Native → Result (List Program) Refusal
programs_behind s edits seen [] = Ok []
programs_behind s edits seen (n ∷ ns) =
    programs_with (program_among s edits n) (or_refused n (done_of s edits seen n)) (λ places. programs_behind s edits (seen ++ places) ns)

-- What native resources do, one after another, read through the links that every host has; or the first refusal.
abbrev pub programs : Setting → List Native → Result (List Program) Refusal
programs s ns = programs_behind s (edits_of s ns) [] ns

-- ---- the native resources of a catalog

-- the resource at a place, as the text and as the catalog have it, if both do
abbrev pub native_at : ℕ → Option CompiledResource → Option Resource → List Native
native_at place None r = []
native_at place (Some c) None = []
native_at place (Some c) (Some r) = record { place = place; text = c; resource = r } ∷ []

-- those at these places
abbrev pub natives_at : List CompiledResource → List Resource → List ℕ → List Native
natives_at texts resources plain = flat_map (λ place. native_at place (slice_get texts place) (slice_get resources place)) plain
