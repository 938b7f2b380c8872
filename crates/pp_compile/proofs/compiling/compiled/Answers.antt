use Rattle.std.proofs.Common.{refl}
use Rattle.catalog_semantics.specs.Catalogs.{catalog_of}
use Rattle.pp_compile.proofs.SourceLaws.{catalog_found, catalog_refused, source_refused}
use Rattle.pp_compile.proofs.compiling.compiled.Goals as goal

pub returns-clause-catalog : goal.returns-clause-catalog
returns-clause-catalog c =
    catalog_found c.args.text.now c.in_ok-manifest.manifest c.args.facts.now c.args.node.now c.args.levels.now c.args.limits c.in_ok-manifest.ensures.parsed
    (catalog_of c.in_ok-manifest.manifest c.args.facts.now c.args.node.now c.args.levels.now c.args.limits) refl c.catalog_of.result c.catalog_of.ensures

pub returns-clause-refused : goal.returns-clause-refused
returns-clause-refused c =
    catalog_refused c.args.text.now c.in_ok-manifest.manifest c.args.facts.now c.args.node.now c.args.levels.now c.args.limits c.in_ok-manifest.ensures.parsed
    (catalog_of c.in_ok-manifest.manifest c.args.facts.now c.args.node.now c.args.levels.now c.args.limits) refl c.catalog_of.result c.catalog_of.ensures

pub returns-in_err-manifest-clause-refused : goal.returns-in_err-manifest-clause-refused
returns-in_err-manifest-clause-refused c =
    source_refused c.args.text.now c.args.facts.now c.args.node.now c.args.levels.now c.args.limits c.from_residual.result c.in_err-manifest.field-0.0 c.from_residual.ensures.1 c.in_err-manifest.ensures.refused
