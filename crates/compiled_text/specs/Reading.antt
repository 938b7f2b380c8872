-- What the text of a compiled catalog says, as it is read; none, where it has another form.
use Rattle.std.specs.Prelude.{◌≡◌, ℕ, suc, ◌<◌, ◌==◌, ℤ, Bool, true, false, ◌||◌, ◌&&◌, not, if◌then◌else◌, List, [], ◌∷◌, ◌++◌, length, map, slice_get, codes, Option, Some, None, is_some, option_map}
use Rattle.std.specs.Char.{is_ascii_alphabetic}
use Rattle.std.specs.List.{list_any}
use Rattle.serde_json.specs.Data.{Data, null, boolean, number, string, array, object, Items, no_items, item}
use Rattle.serde_json.specs.Find.{get, as_i64, as_u64, as_number, as_str, as_array, as_object}
use Rattle.rh_base.specs.Reading.{◌>>=◌}
use Rattle.pp_value.specs.declared.value.Ref.{Ref}
use Rattle.pp_value.specs.Values.{Pair, same_ref}
use Rattle.pp_eval.specs.References.{ref_of}
use Rattle.compiled_text.specs.declared.catalog.CompiledResource.{CompiledResource}
use Rattle.compiled_text.specs.declared.catalog.Containment.{Containment}
use Rattle.compiled_text.specs.declared.names.Spot.{Spot}
use Rattle.compiled_text.specs.declared.names.Spot.TheVariants.{Beginning, Within, BetweenColons}
use Rattle.compiled_text.specs.Names.{is_word_byte}
use Rattle.compiled_text.specs.Values.{pairs_of}
use Rattle.compiled_text.specs.Compiled.{Compiled, ids_of, counts_as, contains_others, is_container_at, is_class_at, first_outer, holder_of}

-- ---- types

-- where the next byte of a type stands, if this one may stand there
abbrev pub spot_behind : Spot → ℕ → Option Spot
spot_behind Beginning c = if is_ascii_alphabetic c then Some Within else None
spot_behind Within c = if is_word_byte c then Some Within else (if c == 58 then Some BetweenColons else None)
spot_behind BetweenColons c = if c == 58 then Some Beginning else None

-- a type may end there
abbrev pub may_end : Spot → Bool
may_end Beginning = false
may_end Within = true
may_end BetweenColons = false

-- there is a spot, and it passes the test
abbrev pub at_spot : (Spot → Bool) → Option Spot → Bool
at_spot test None = false
at_spot test (Some s) = test s

-- it goes on from there to the end of a type
abbrev pub goes_on : List ℕ → Spot → Bool
goes_on [] s = may_end s
goes_on (c ∷ text) s = at_spot (goes_on text) (spot_behind s c)

abbrev pub is_type : List ℕ → Bool
is_type text = goes_on text Beginning

-- ---- references

-- what stands before the first `[`, and behind it
abbrev pub around_bracket : List ℕ → Option (List ℕ × List ℕ)
around_bracket [] = None
around_bracket (c ∷ text) = if c == 91 then Some ([], text) else option_map (λ x. (c ∷ x.0, x.1)) (around_bracket text)

-- what stands before a `]` at the end
abbrev pub before_bracket : List ℕ → Option (List ℕ)
before_bracket [] = None
before_bracket (c ∷ []) = if c == 93 then Some [] else None
before_bracket (c ∷ d ∷ text) = option_map (λ front. c ∷ front) (before_bracket (d ∷ text))

abbrev pub is_empty : List ℕ → Bool
is_empty [] = true
is_empty (c ∷ text) = false

-- the reference of a type and a title as they are spelled
abbrev pub named : List ℕ → List ℕ → Option Ref
named type_text title_text = if is_type type_text && not (is_empty title_text) then Some (ref_of type_text title_text) else None

-- the reference that a text is
abbrev pub reference_of : List ℕ → Option Ref
reference_of text = around_bracket text >>= (λ x. before_bracket x.1 >>= named x.0)

-- the place of a reference
abbrev pub place_of : Ref → List Ref → Option ℕ
place_of r [] = None
place_of r (q ∷ refs) = if same_ref r q then Some 0 else option_map suc (place_of r refs)

-- ---- resources

-- the text at a key of an object
abbrev pub text_at : List ℕ → Data → Option (List ℕ)
text_at key d = get key d >>= as_str

-- the reference, unless its title is empty
abbrev pub if_titled : Ref → Option Ref
if_titled r = if is_empty r.title then None else Some r

-- the reference of a type and a title, if they are one
abbrev pub id_with : List ℕ → List ℕ → Option Ref
id_with type_text title_text = if is_type type_text then if_titled (ref_of type_text title_text) else None

-- the reference of a resource
abbrev pub id_of : Data → Option Ref
id_of d = text_at (codes "type") d >>= (λ type_text. text_at (codes "title") d >>= id_with type_text)

-- the parameters of an object, or none where it doesn't stand
abbrev pub parameters_in : Option Data → Option (List Pair)
parameters_in None = Some []
parameters_in (Some d) = option_map pairs_of (as_object d)

-- the text of a file, if any
abbrev pub file_of : Data → Option (Option (List ℕ))
file_of null = Some None
file_of (boolean b) = None
file_of (number n) = None
file_of (string text) = Some (Some text)
file_of (array items) = None
file_of (object _) = None

abbrev pub file_in : Option Data → Option (Option (List ℕ))
file_in None = Some None
file_in (Some d) = file_of d

-- the number of a line, if any
abbrev pub line_of : Data → Option (Option ℤ)
line_of null = Some None
line_of (boolean b) = None
line_of (number n) = option_map (λ z. Some z) (as_i64 n)
line_of (string text) = None
line_of (array items) = None
line_of (object _) = None

abbrev pub line_in : Option Data → Option (Option ℤ)
line_in None = Some None
line_in (Some d) = line_of d

-- the resource of these parts
abbrev pub resource_with : List ℕ → Option ℤ → Ref → List Pair → Option (List ℕ) → CompiledResource
resource_with kind line id parameters file =
    record { id = id; is_container = contains_others id.kind kind; parameters = parameters; file = file; line = line }

abbrev pub resource_of : Data → Option CompiledResource
resource_of d =
    text_at (codes "kind") d >>= (λ kind. line_in (get (codes "line") d) >>= (λ line. id_of d >>= (λ id. parameters_in (get (codes "parameters") d)
    >>= (λ parameters. option_map (resource_with kind line id parameters) (file_in (get (codes "file") d))))))

-- the resources of all items, unless one has another form
abbrev pub resources_of : Items → Option (List CompiledResource)
resources_of no_items = Some []
resources_of (item d items) = resource_of d >>= (λ r. option_map (λ rs. r ∷ rs) (resources_of items))

-- ---- references that differ

-- it is one of these
abbrev pub stands_in : Ref → List Ref → Bool
stands_in r refs = list_any (same_ref r) refs

-- the references with one more, unless it is one of them
abbrev pub with_ref : List Ref → Ref → List Ref
with_ref refs r = if stands_in r refs then refs else refs ++ r ∷ []

-- each is none of those before it, of which some have been seen already
abbrev pub are_new : List Ref → List Ref → Bool
are_new seen [] = true
are_new seen (r ∷ refs) = not (stands_in r seen) && are_new (seen ++ r ∷ []) refs

-- the references, if they differ
abbrev pub if_new : List Ref → Option (List Ref)
if_new refs = if are_new [] refs then Some refs else None

-- ---- edges

-- the place that a text names
abbrev pub place_named : List Ref → List ℕ → Option ℕ
place_named refs text = reference_of text >>= (λ r. place_of r refs)

-- the place that the text at a key of an object names
abbrev pub place_at : List Ref → List ℕ → Data → Option ℕ
place_at refs key d = text_at key d >>= place_named refs

abbrev pub edge_with : ℕ → ℕ → Containment
edge_with outer inner = record { outer = outer; inner = inner }

-- the edge of an object, if its source is a container
abbrev pub edge_of : List CompiledResource → Data → Option Containment
edge_of resources d =
    place_at (ids_of resources) (codes "source") d >>= (λ outer. if is_container_at resources outer
    then option_map (edge_with outer) (place_at (ids_of resources) (codes "target") d) else None)

-- the edges of all items, unless one has another form
abbrev pub edges_of : List CompiledResource → Items → Option (List Containment)
edges_of resources no_items = Some []
edges_of resources (item d items) = edge_of resources d >>= (λ e. option_map (λ es. e ∷ es) (edges_of resources items))

-- one of these edges contains the place
abbrev pub is_held : ℕ → List Containment → Bool
is_held place edges = is_some (first_outer place edges)

-- what it contains is a class, or none of those before it contains it
abbrev pub is_free : List CompiledResource → List Containment → Containment → Bool
is_free resources before e = is_class_at resources e.inner || not (is_held e.inner before)

-- each of these is free so, where some stand before them all
abbrev pub are_free : List CompiledResource → List Containment → List Containment → Bool
are_free resources before [] = true
are_free resources before (e ∷ edges) = is_free resources before e && are_free resources (before ++ e ∷ []) edges

-- ---- the whole

-- it is the number 2
abbrev pub is_two : Option ℕ → Bool
is_two None = false
is_two (Some n) = n == 2

-- the form is that of version 2
abbrev pub has_format : Data → Bool
has_format d = is_two (get (codes "catalog_format") d >>= as_number >>= as_u64)

-- the items of the array at a key of an object
abbrev pub items_at : List ℕ → Data → Option Items
items_at key d = get key d >>= as_array

abbrev pub compiled_with : List CompiledResource → List Containment → Compiled
compiled_with resources edges = record { resources = resources; edges = edges }

-- the compiled catalog of these resources, whose references differ
abbrev pub compiled_behind : Data → List CompiledResource → Option Compiled
compiled_behind d resources =
    if are_new [] (ids_of resources) && are_new [] (map counts_as resources)
    then items_at (codes "edges") d >>= edges_of resources >>= (λ edges. if are_free resources [] edges then Some (compiled_with resources edges) else None)
    else None

abbrev pub compiled_of : Data → Option Compiled
compiled_of d = if has_format d then items_at (codes "resources") d >>= resources_of >>= compiled_behind d else None

-- ---- what the parts of the code do

-- each resource has a slot, which has the container in the first of these edges that contain it; a class has none
abbrev pub AreHolders : List CompiledResource → List Containment → List (Option ℕ) → Type 0
AreHolders resources edges holders = (place : ℕ) → place < length resources
    → slice_get holders place ≡ Some (holder_of (compiled_with resources edges) place)
