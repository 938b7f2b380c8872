-- What a compiled catalog says: its resources, and what contains what.
use Rattle.std.specs.Prelude.{◌≡◌, ◌≢◌, ℕ, ◌<◌, ◌==◌, Bool, true, false, ◌||◌, ◌&&◌, not, if◌then◌else◌, List, [], ◌∷◌, length, map, slice_get, codes, Option, Some, None}
use Rattle.std.specs.Str.{bytes_eq}
use Rattle.std.specs.List.{AllByRecursion}
use Rattle.pp_value.specs.declared.value.Ref.{Ref}
use Rattle.pp_value.specs.declared.value.Value.{Value}
use Rattle.pp_value.specs.declared.value.Value.TheVariants as v
use Rattle.pp_value.specs.Proper.{IsProper}
use Rattle.pp_value.specs.Values.{HasDistinctKeys, value_at}
use Rattle.compiled_text.specs.declared.catalog.CompiledResource.{CompiledResource}
use Rattle.compiled_text.specs.declared.catalog.Containment.{Containment}

-- its resources, and what contains what, both in the text's order
pub record Compiled : Type 0 where
  pub resources : List CompiledResource
  pub edges : List Containment

-- ---- references

-- the references of resources
abbrev pub ids_of : List CompiledResource → List Ref
ids_of resources = map (λ r. r.id) resources

-- the reference of the resource at a place
abbrev pub id_at : List CompiledResource → ℕ → Option Ref
id_at resources place = slice_get (ids_of resources) place

-- each of these differs from the others
abbrev pub AreDistinct : List Ref → Type 0
AreDistinct [] = Unit {0}
AreDistinct (r ∷ refs) = AllByRecursion (λ q. r ≢ q) refs × AreDistinct refs

-- a value that is a text, or else this one
abbrev pub text_or : List ℕ → Option Value → List ℕ
text_or other None = other
text_or other (Some v.Undef) = other
text_or other (Some (v.Bool b)) = other
text_or other (Some (v.Int n)) = other
text_or other (Some (v.Str text)) = text
text_or other (Some (v.List' shape row)) = other
text_or other (Some (v.Map' keys row)) = other
text_or other (Some (v.Refer r)) = other
text_or other (Some v.Opaque) = other

-- what Puppet's module concat puts together of fragments
abbrev pub is_concat_file : CompiledResource → Bool
is_concat_file r = bytes_eq r.id.kind (codes "concat_file") && not r.is_container

-- A file that is put together of fragments counts as the file at its path: its parameter `path`, where that is a text, or else its title.
abbrev pub counts_as : CompiledResource → Ref
counts_as r = if is_concat_file r then record { kind = codes "file"; title = text_or r.id.title (value_at (codes "path") r.parameters) } else r.id

-- ---- containers

-- A resource of this type, of which the text tells this kind, may contain others: any but one that an agent applies as it is, and a
-- stage and a class in any case.
abbrev pub contains_others : List ℕ → List ℕ → Bool
contains_others type_name kind = not (bytes_eq kind (codes "compilable_type")) || (bytes_eq type_name (codes "stage") || bytes_eq type_name (codes "class"))

-- it is a class
abbrev pub is_class : CompiledResource → Bool
is_class r = bytes_eq r.id.kind (codes "class")

-- there is a resource, and it passes the test
abbrev pub passes : (CompiledResource → Bool) → Option CompiledResource → Bool
passes test None = false
passes test (Some r) = test r

-- a container stands at the place
abbrev pub is_container_at : List CompiledResource → ℕ → Bool
is_container_at resources place = passes (λ r. r.is_container) (slice_get resources place)

-- a class stands at the place
abbrev pub is_class_at : List CompiledResource → ℕ → Bool
is_class_at resources place = passes is_class (slice_get resources place)

-- what is contained twice is a class
abbrev pub AreHeldOnce : List CompiledResource → List Containment → Type 0
AreHeldOnce resources [] = Unit {0}
AreHeldOnce resources (e ∷ edges) = AllByRecursion (λ f. f.inner ≡ e.inner → is_class_at resources e.inner ≡ true) edges
    × AreHeldOnce resources edges

-- the container in the first of these edges that contain the place
abbrev pub first_outer : ℕ → List Containment → Option ℕ
first_outer place [] = None
first_outer place (e ∷ edges) = if e.inner == place then Some e.outer else first_outer place edges

-- the container of what stands at a place; classes have none, since more than one may contain them
abbrev pub holder_of : Compiled → ℕ → Option ℕ
holder_of c place = if is_class_at c.resources place then None else first_outer place c.edges

-- ---- what holds of a compiled catalog

-- it leads from a container to a resource
pub record IsContainment (resources : List CompiledResource) (e : Containment) : Type 0 where
  pub container : is_container_at resources e.outer ≡ true
  pub resource : e.inner < length resources

-- No two resources have one reference, nor count as one; each edge leads from a container to a resource; and nothing but a class is
-- contained twice.
pub record IsSound (c : Compiled) : Type 0 where
  pub references : AreDistinct (ids_of c.resources)
  pub apart : AreDistinct (map counts_as c.resources)
  pub edges : AllByRecursion (IsContainment c.resources) c.edges
  pub once : AreHeldOnce c.resources c.edges

-- a title that isn't empty, and parameters of which each map has distinct keys
pub record IsProperResource (r : CompiledResource) : Type 0 where
  pub titled : r.id.title ≢ []
  pub distinct : HasDistinctKeys r.parameters
  pub values : AllByRecursion (λ p. IsProper p.1) r.parameters

-- what stands beside a compiled catalog: its references in order, and the container of each resource
pub record IsKept (refs : List Ref) (holders : List (Option ℕ)) (c : Compiled) : Type 0 where
  pub sound : IsSound c
  pub proper : AllByRecursion IsProperResource c.resources
  pub refs_are : refs ≡ ids_of c.resources
  pub holders_are : (place : ℕ) → place < length c.resources → slice_get holders place ≡ Some (holder_of c place)
