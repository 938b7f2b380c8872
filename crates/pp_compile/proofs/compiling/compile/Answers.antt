use Rattle.std.proofs.Common.{◌≡◌, Result, subst}
use Rattle.rh_base.specs.declared.fault.Refusal.{Refusal}
use Rattle.host_limits.specs.declared.limits.Limits.TheVariants.{Usual}
use Rattle.catalog_semantics.specs.Catalogs.{Catalog}
use Rattle.pp_compile.specs.Sources.{IsCatalogOf, IsSourceRefusal}
use Rattle.pp_compile.proofs.compiling.compile.Goals as goal

pub returns-clause-one : goal.returns-clause-one
returns-clause-one c =
    subst (λ l. (v w : Result Catalog Refusal) → IsCatalogOf c.args.text.now c.args.facts.now c.args.node.now l Usual v → IsCatalogOf c.args.text.now c.args.facts.now c.args.node.now l Usual w → v ≡ w) c.empty.ensures
    c.compile_with-2.ensures.one

pub returns-clause-read : goal.returns-clause-read
returns-clause-read c =
    subst (λ l. (v : Result Catalog Refusal) (r : Refusal) → IsCatalogOf c.args.text.now c.args.facts.now c.args.node.now l Usual v → IsSourceRefusal c.args.text.now r → ⊥) c.empty.ensures
    c.compile_with-2.ensures.read
