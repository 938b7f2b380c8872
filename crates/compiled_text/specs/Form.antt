-- The form of the text of a compiled catalog, which Puppet's compiler prints: what such a text says.
use Rattle.std.specs.Prelude.{◌≡◌, ◌≢◌, ◌⊎◌, ℕ, ℤ, List, [], ◌∷◌, codes, Option, Some, None, IsUtf8}
use Rattle.serde_json.specs.Data.{Num, unsigned, Data, null, number, string, array, object, Items, no_items, item, Members}
use Rattle.serde_json.specs.Find.{get, as_i64}
use Rattle.serde_json.specs.Read.{read}
use Rattle.pp_value.specs.declared.value.Ref.{Ref}
use Rattle.pp_value.specs.Values.{Pair}
use Rattle.pp_eval.specs.References.{ref_of}
use Rattle.compiled_text.specs.declared.catalog.CompiledResource.{CompiledResource}
use Rattle.compiled_text.specs.declared.catalog.Containment.{Containment}
use Rattle.compiled_text.specs.Names.{IsType, IsReference}
use Rattle.compiled_text.specs.Values.{pairs_of}
use Rattle.compiled_text.specs.Compiled.{Compiled, id_at, contains_others, IsSound}

-- ---- resources

-- an object, of which each member is a parameter and its value; none, where it doesn't stand
abbrev pub AreParameters : List Pair → Option Data → Type 0
AreParameters pairs None = pairs ≡ []
AreParameters pairs (Some d) = (members : Members) × (d ≡ object members) × (pairs ≡ pairs_of members)

-- a text or null, if it stands
abbrev pub IsFile : Option (List ℕ) → Option Data → Type 0
IsFile file None = file ≡ None
IsFile file (Some d) = ((d ≡ null) × (file ≡ None)) ⊎ ((text : List ℕ) × (d ≡ string text) × (file ≡ Some text))

-- a whole number or null, if it stands
abbrev pub IsLine : Option ℤ → Option Data → Type 0
IsLine line None = line ≡ None
IsLine line (Some d) = ((d ≡ null) × (line ≡ None)) ⊎ ((n : Num) × (z : ℤ) × (d ≡ number n) × (as_i64 n ≡ Some z) × (line ≡ Some z))

-- {"type": TYPE, "title": TITLE, "kind": KIND, "parameters": {NAME: VALUE, ..}, "file": FILE, "line": LINE}, where the last three may be
-- left out, and other keys don't count. No title is empty, nor that of a class when a leading `::` is taken off.
pub record IsResource (r : CompiledResource) (d : Data) : Type 0 where
  pub type_text : List ℕ
  pub has_type : get (codes "type") d ≡ Some (string type_text)
  pub is_type : IsType type_text
  pub title_text : List ℕ
  pub has_title : get (codes "title") d ≡ Some (string title_text)
  pub names : r.id ≡ ref_of type_text title_text
  pub titled : r.id.title ≢ []
  pub kind : List ℕ
  pub has_kind : get (codes "kind") d ≡ Some (string kind)
  pub container : r.is_container ≡ contains_others r.id.kind kind
  pub parameters : AreParameters r.parameters (get (codes "parameters") d)
  pub file : IsFile r.file (get (codes "file") d)
  pub line : IsLine r.line (get (codes "line") d)

-- an array of resources, in order
abbrev pub AreResources : List CompiledResource → Items → Type 0
AreResources [] no_items = Unit {0}
AreResources [] (item d items) = ⊥
AreResources (r ∷ resources) no_items = ⊥
AreResources (r ∷ resources) (item d items) = IsResource r d × AreResources resources items

-- ---- edges

-- a text that is the reference of the resource at a place
pub record Names (resources : List CompiledResource) (place : ℕ) (member : Option Data) : Type 0 where
  pub text : List ℕ
  pub is_text : member ≡ Some (string text)
  pub reference : Ref
  pub is_reference : IsReference text reference
  pub stands : id_at resources place ≡ Some reference

-- {"source": REFERENCE, "target": REFERENCE}, where other keys don't count: the source contains the target
pub record IsEdge (resources : List CompiledResource) (e : Containment) (d : Data) : Type 0 where
  pub source : Names resources e.outer (get (codes "source") d)
  pub target : Names resources e.inner (get (codes "target") d)

-- an array of edges, in order
abbrev pub AreEdges : List CompiledResource → List Containment → Items → Type 0
AreEdges resources [] no_items = Unit {0}
AreEdges resources [] (item d items) = ⊥
AreEdges resources (e ∷ edges) no_items = ⊥
AreEdges resources (e ∷ edges) (item d items) = IsEdge resources e d × AreEdges resources edges items

-- ---- the whole

-- {"catalog_format": 2, "resources": [RESOURCE, ..], "edges": [EDGE, ..]}, where other keys don't count
pub record IsCompiled (c : Compiled) (d : Data) : Type 0 where
  pub format : get (codes "catalog_format") d ≡ Some (number (unsigned 2))
  pub resources : Items
  pub has_resources : get (codes "resources") d ≡ Some (array resources)
  pub are_resources : AreResources c.resources resources
  pub edges : Items
  pub has_edges : get (codes "edges") d ≡ Some (array edges)
  pub are_edges : AreEdges c.resources c.edges edges
  pub sound : IsSound c

-- The bytes are UTF-8 and JSON of a compiled catalog. JSON nests at most 127 levels deep, and of equal keys of an object the last counts.
pub record IsCompiledText (bytes : List ℕ) (c : Compiled) : Type 0 where
  pub text : IsUtf8 bytes
  pub json : Data
  pub is_read : read bytes ≡ Some json
  pub says : IsCompiled c json
