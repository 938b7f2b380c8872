-- A catalog that grows resource by resource.
use Rattle.std.specs.Prelude.{◌≡◌, ℕ, List, [], map, take, Result, Ok}
use Rattle.rh_base.specs.declared.fault.Refusal.{Refusal}
use Rattle.pp_eval.specs.Evaluating.{◌>>=◌}
use Rattle.catalog_semantics.specs.declared.catalog.Resource.{Resource}
use Rattle.catalog_semantics.specs.Catalogs.{Catalog}
use Rattle.catalog_semantics.specs.States.{references_of}
use Rattle.compiled_text.specs.Compiled.{Compiled, counts_as}

-- a catalog of these resources alone, unless they are refused
abbrev pub catalog_with : Result (List Resource) Refusal → Result Catalog Refusal
catalog_with found = do
  resources ← found
  Ok (record { resources = resources; holdings = []; relations = [] })

-- the catalog has the first n resources and nothing else
pub record HasFirst (c : Compiled) (n : ℕ) (k : Catalog) : Type 0 where
  pub references : references_of k.resources ≡ map counts_as (take n c.resources)
  pub no_holdings : k.holdings ≡ []
  pub no_relations : k.relations ≡ []
