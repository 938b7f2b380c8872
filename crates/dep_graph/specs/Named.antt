-- Automatic edges to what resources name.
use Rattle.std.specs.Prelude.{ℕ, ◌*◌, ◌==◌, Bool, false, not, ◌&&◌, nat_le, if◌then◌else◌, List, [], ◌∷◌, filter, length, Option, Some, None, slice_get}
use Rattle.std.specs.List.{flat_map, list_any}
use Rattle.std.specs.Str.{bytes_eq}
use Rattle.rh_base.specs.declared.limits.TheConstants.{NAME_BYTES}
use Rattle.catalog_semantics.specs.declared.catalog.Resource.{Resource}
use Rattle.catalog_semantics.specs.Catalogs.{Catalog}
use Rattle.pp_value.specs.declared.value.Value.{Value}
use Rattle.graph_semantics.specs.Automatic.{name_of, named_by, text_in, somebodies}
use Rattle.dep_graph.specs.declared.links.Link.{Link}

-- the number stands in the list
abbrev pub has : ℕ → List ℕ → Bool
has n ns = list_any (λ k. k == n) ns

-- a relation stands from the one node to the other
abbrev pub is_linked : List Link → ℕ → ℕ → Bool
is_linked links a b = list_any (λ l. has a l.from && has b l.to) links

-- the edge from the target, unless a relation stands to it
abbrev pub kept_edge : List Link → ℕ → ℕ → List (ℕ × ℕ)
kept_edge links target place = if is_linked links (2 * place) (2 * target) then [] else (2 * target, 2 * place) ∷ []

-- whether a text may be a name
abbrev pub is_proper : List ℕ → Bool
is_proper name = not (length name == 0) && nat_le (length name) NAME_BYTES && not (list_any (λ b. b == 0) name)

-- the text is there, and is this
abbrev pub is_text : List ℕ → Option (List ℕ) → Bool
is_text name None = false
is_text name (Some text) = bytes_eq text name

-- the resource is of the type and manages what has the name
abbrev pub has_name : List ℕ → List ℕ → Option Resource → Bool
has_name kind name None = false
has_name kind name (Some r) = bytes_eq r.id.kind kind && is_text name (name_of r)

-- the text that a member of a list is
abbrev pub member_text : Value → List (List ℕ)
member_text x = text_in (Some x)

-- those of these places at which something has a name
abbrev pub named_among : Catalog → List ℕ → List ℕ → List ℕ → List ℕ
named_among c kind name plain = filter (λ place. has_name kind name (slice_get c.resources place)) plain

-- the places of what has this type and name, if it may be a name
abbrev pub named_targets : Catalog → List ℕ → List ℕ × List ℕ → List ℕ
named_targets c plain who = if is_proper who.1 then named_among c who.0 who.1 plain else []

-- the places of what the members of a list name
abbrev pub targets_of_members : Catalog → List ℕ → List ℕ → List Value → List ℕ
targets_of_members c plain kind items = flat_map (named_targets c plain) (somebodies kind (flat_map member_text items))

-- the places of what a resource names
abbrev pub targets_by_names : Catalog → List ℕ → Resource → List ℕ
targets_by_names c plain r = flat_map (named_targets c plain) (named_by r)

-- the edges from targets to which no relation stands
abbrev pub kept_edges : List Link → ℕ → List ℕ → List (ℕ × ℕ)
kept_edges links place targets = flat_map (λ target. kept_edge links target place) targets

-- the edges from what the resource at a place names
abbrev pub edges_by_names : Catalog → List Link → List ℕ → ℕ → Option Resource → List (ℕ × ℕ)
edges_by_names c links plain place None = []
edges_by_names c links plain place (Some r) = kept_edges links place (targets_by_names c plain r)

-- the edges from what these resources name
abbrev pub named_edges : Catalog → List Link → List ℕ → List ℕ → List (ℕ × ℕ)
named_edges c links plain places = flat_map (λ place. edges_by_names c links plain place (slice_get c.resources place)) places
