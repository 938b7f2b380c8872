-- What relations become in the catalog.
use Rattle.std.specs.Prelude.{◌≡◌, false, List, is_none}
use Rattle.std.specs.List.{AllByRecursion}
use Rattle.pp_value.specs.declared.value.Value.{Value}
use Rattle.pp_value.specs.Values.{has_opaque}
use Rattle.catalog_semantics.specs.Attributes.{references_in}
use Rattle.graph_semantics.specs.Relations.{references_within}
use Rattle.compiled_text.specs.declared.catalog.CompiledResource.{CompiledResource}
use Rattle.compiled_relations.specs.Finding.{StandsIn}

-- A reference, or a list of them at any depth; nothing in it is opaque, and each is the reference of a resource.
pub record IsRelation (all : List CompiledResource) (x : Value) : Type 0 where
  pub known : has_opaque x ≡ false
  pub references : is_none (references_in x) ≡ false
  pub stand : AllByRecursion (StandsIn all) (references_within x)
