-- The catalog of a compiled catalog.
use Rattle.std.specs.Prelude.{ℕ, false, not, nat_lt, if◌then◌else◌, List, [], ◌∷◌, ◌++◌, length, map, filter, codes, Result, Ok, Err}
use Rattle.rh_base.specs.declared.fault.Refusal.{Refusal}
use Rattle.host_limits.specs.declared.limits.Limits.{Limits}
use Rattle.host_limits.specs.Limits.{declared_limit, resource_limit}
use Rattle.pp_value.specs.Values.{Pair}
use Rattle.pp_eval.specs.Evaluating.{◌>>=◌, refusal}
use Rattle.catalog_semantics.specs.declared.catalog.Resource.{Resource}
use Rattle.catalog_semantics.specs.declared.catalog.Sort.{Sort}
use Rattle.catalog_semantics.specs.declared.catalog.Sort.TheVariants as sort
use Rattle.catalog_semantics.specs.declared.state.Holding.{Holding}
use Rattle.catalog_semantics.specs.States.{within_size}
use Rattle.catalog_semantics.specs.Catalogs.{Catalog}
use Rattle.compiled_text.specs.declared.catalog.CompiledResource.{CompiledResource}
use Rattle.compiled_text.specs.declared.catalog.Containment.{Containment}
use Rattle.compiled_text.specs.Compiled.{Compiled, counts_as, is_class, is_class_at, holder_of}
use Rattle.compiled_relations.specs.Links.{with_links}
use Rattle.compiled_catalog.specs.Attributes.{settled_attributes}

-- ---- limits

-- no more resources and containers than may be declared
abbrev pub few_declared : Limits → Compiled → Result (Unit {0}) Refusal
few_declared limits c = if nat_lt (declared_limit limits) (length c.resources) then Err (refusal 32 0 (codes "declared")) else Ok tt

-- what an agent applies itself: resources that are no containers
abbrev pub native : Compiled → List CompiledResource
native c = filter (λ r. not r.is_container) c.resources

-- no more of these than may be real and plain
abbrev pub few_native : Limits → Compiled → Result (Unit {0}) Refusal
few_native limits c = if nat_lt (resource_limit limits) (length (native c)) then Err (refusal 32 0 (codes "resources")) else Ok tt

-- ---- resources

-- a class, or else a defined resource if it may contain others, or else a plain one
abbrev pub sort_of : CompiledResource → Sort
sort_of r = if is_class r then sort.Class else (if r.is_container then sort.Defined else sort.Plain)

-- The resource at a place, with these attributes. What contains it holds it, unless it is a class.
abbrev pub resource_at : Compiled → ℕ → CompiledResource → List Pair → Resource
resource_at c place r attributes =
    record { id = counts_as r; sort = sort_of r; is_virtual = false; at = 0; holder = holder_of c place; attrs = attributes }

-- the resources before it, and then a resource with its attributes, unless these are refused, or all so far are too large together
abbrev pub with_one : Compiled → List Resource → CompiledResource → Result (List Resource) Refusal
with_one c before r = do
  attributes ← settled_attributes c.resources r
  within_size 0 (before ++ resource_at c (length before) r attributes ∷ [])

-- these resources so, one after another
abbrev pub with_all : Compiled → List Resource → List CompiledResource → Result (List Resource) Refusal
with_all c before [] = Ok before
with_all c before (r ∷ resources) = do
  so_far ← with_one c before r
  with_all c so_far resources

-- ---- the catalog

-- an edge to a class puts it into what contains it
abbrev pub holding_of : Containment → Holding
holding_of e = record { outer = e.outer; class = e.inner }

-- the classes that containers hold, in the order of edges
abbrev pub holdings_of : Compiled → List Holding
holdings_of c = map holding_of (filter (λ e. is_class_at c.resources e.inner) c.edges)

-- The catalog of a compiled catalog: its resources and containers in the text's order, the classes in containers, and what comes before
-- its links.
abbrev pub catalog_of : Compiled → Limits → Result Catalog Refusal
catalog_of c limits = do
  _ ← few_declared limits c
  _ ← few_native limits c
  resources ← with_all c [] c.resources
  Ok (with_links (record { resources = resources; holdings = holdings_of c; relations = [] }))
