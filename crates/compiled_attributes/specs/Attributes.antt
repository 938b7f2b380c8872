-- The attributes of the resources of a compiled catalog.
use Rattle.std.specs.Prelude.{◌≡◌, ℕ, Bool, false, if◌then◌else◌, List, [], ◌∷◌, codes, Option, Some, None, option_map, option_and_then}
use Rattle.std.specs.declared.cmp.Ordering.{Ordering}
use Rattle.std.specs.BTreeMap.{insert_entry}
use Rattle.std.specs.Ordering.{nat_cmp}
use Rattle.std.specs.Cmp.Lexicographic.{slice_cmp}
use Rattle.std.specs.Option.{option_or}
use Rattle.std.specs.Str.{bytes_eq}
use Rattle.pp_value.specs.declared.value.Value.{Value}
use Rattle.pp_value.specs.declared.value.Value.TheVariants as v
use Rattle.pp_value.specs.Values.{Pair, value_at, has_opaque}
use Rattle.catalog_semantics.specs.Attributes.{is_one_of}
use Rattle.model_semantics.specs.declared.kinds.Kind.TheVariants as kind
use Rattle.model_semantics.specs.Attributes.{kind_of}
use Rattle.compiled_text.specs.declared.catalog.CompiledResource.{CompiledResource}
use Rattle.compiled_text.specs.Compiled.{is_concat_file}
use Rattle.compiled_attributes.specs.declared.reading.Reading.{Reading}
use Rattle.compiled_attributes.specs.declared.reading.Reading.TheVariants as reading
use Rattle.compiled_attributes.specs.Given.{is_true}
use Rattle.compiled_attributes.specs.Rows.{left_out_of_all, file_rows, is_short_link, native_value, container_value, concat_value}
use Rattle.compiled_attributes.specs.Fragments.{filling_of}

-- its `noop` is true
abbrev pub is_noop : CompiledResource → Bool
is_noop r = is_true (codes "noop") r.parameters

-- ---- how the attributes of a resource are read

-- as those of a container, of a file that is put together, or of a native resource, which may be of a type that has a model
abbrev pub reading_of : CompiledResource → Reading
reading_of r = if r.is_container then reading.Container else
    (if is_concat_file r then reading.Concat else reading.Native (kind_of r.id.kind))

-- what becomes of an attribute, read so beside the others; none where it is left out
abbrev pub value_read : Reading → List Pair → List ℕ → Value → Option Value
value_read reading.Container ps name x = container_value name x
value_read reading.Concat ps name x = concat_value ps name x
value_read (reading.Native k) ps name x = native_value k ps name x

-- ---- what the text doesn't have as it is

-- the `target` of a short link
abbrev pub short_target : List Pair → Option Pair
short_target f = if is_short_link f then option_map (λ x. (codes "target", x)) (value_at (codes "ensure") f) else None

-- an attribute that the text doesn't give: the `target` of a short link, and the `content` of a file that is put together
abbrev pub added_to : List CompiledResource → CompiledResource → Reading → Option Pair
added_to resources r reading.Container = None
added_to resources r reading.Concat = option_map (λ text. (codes "content", v.Str text)) (filling_of resources r)
added_to resources r (reading.Native (Some kind.File)) = short_target r.parameters
added_to resources r (reading.Native _) = None

-- ---- in order

-- attributes in the byte order of their names
abbrev pub byte_cmp : List ℕ → List ℕ → Ordering
byte_cmp = slice_cmp nat_cmp

-- attributes in order, with one more if it is there
abbrev pub with_attribute : List Pair → List ℕ → Option Value → List Pair
with_attribute attributes name None = attributes
with_attribute attributes name (Some x) = insert_entry byte_cmp attributes name x

-- attributes in order, with what becomes of each of the text's
abbrev pub with_all : (List ℕ → Value → Option Value) → List Pair → List Pair → List Pair
with_all becomes attributes [] = attributes
with_all becomes attributes (p ∷ ps) = with_all becomes (with_attribute attributes p.0 (becomes p.0 p.1)) ps

-- attributes in order, with this one
abbrev pub with_added : List Pair → Option Pair → List Pair
with_added attributes None = attributes
with_added attributes (Some p) = insert_entry byte_cmp attributes p.0 p.1

-- The attributes of a resource, in the byte order of their names: what becomes of those of the text, and one that is added.
abbrev pub attributes_of : List CompiledResource → CompiledResource → List Pair
attributes_of resources r =
    with_added (with_all (value_read (reading_of r) r.parameters) [] r.parameters) (added_to resources r (reading_of r))

-- ---- the same, name by name

-- the value of an added attribute, if it has this name
abbrev pub added_value : List ℕ → Option Pair → Option Value
added_value name None = None
added_value name (Some p) = if bytes_eq p.0 name then Some p.1 else None

-- What an attribute of a resource is: what is added, or else what becomes of the text's attribute of this name.
abbrev pub attribute_of : List CompiledResource → CompiledResource → List ℕ → Option Value
attribute_of resources r name =
    option_or (added_value name (added_to resources r (reading_of r)))
    (option_and_then (value_read (reading_of r) r.parameters name) (value_at name r.parameters))

-- ---- native resources of their own type

-- It contains no others, and isn't taken for a file.
pub record IsItself (r : CompiledResource) : Type 0 where
  pub native : r.is_container ≡ false
  pub whole : is_concat_file r ≡ false

-- No row tells of the attribute: it isn't undef, none of those that are left out of all types, told, and of a file none of its own rows.
pub record IsPlain (r : CompiledResource) (name : List ℕ) (x : Value) : Type 0 where
  pub stands : value_at name r.parameters ≡ Some x
  pub kept : left_out_of_all name x ≡ false
  pub told : has_opaque x ≡ false
  pub unlisted : is_one_of file_rows name ≡ false
