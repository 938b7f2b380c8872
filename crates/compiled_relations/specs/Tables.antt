-- References with places, in tables.
use Rattle.std.specs.Prelude.{◌≡◌, ℕ, if◌then◌else◌, List, [], ◌∷◌, Option, Some, None}
use Rattle.pp_value.specs.declared.value.Ref.{Ref}
use Rattle.pp_value.specs.Values.{same_ref}
use Rattle.compiled_text.specs.declared.catalog.CompiledResource.{CompiledResource}
use Rattle.compiled_relations.specs.declared.names.Way.{Way}
use Rattle.compiled_relations.specs.declared.names.Way.TheVariants as way
use Rattle.compiled_relations.specs.Finding.{names_of, aliases_of, paths_of, first_called}

-- the place of a reference
abbrev pub place_among : Ref → List (Ref × ℕ) → Option ℕ
place_among ref [] = None
place_among ref (p ∷ places) = if same_ref ref p.0 then Some p.1 else place_among ref places

-- what a resource may be called by in one way
abbrev pub calls_by : Way → CompiledResource → List Ref
calls_by way.Name r = names_of r
calls_by way.Alias r = aliases_of r
calls_by way.Path r = paths_of r

-- the table has the first place of each reference by which resources may be called in a way
abbrev pub IsTable : List (Ref × ℕ) → (CompiledResource → List Ref) → List CompiledResource → Type 0
IsTable table calls resources = (q : Ref) → place_among q table ≡ first_called calls q resources

-- what stands beside resources: the tables of their names, aliases and paths
pub record AreTables (names aliases paths : List (Ref × ℕ)) (resources : List CompiledResource) : Type 0 where
  pub by_name : IsTable names names_of resources
  pub by_alias : IsTable aliases aliases_of resources
  pub by_path : IsTable paths paths_of resources
