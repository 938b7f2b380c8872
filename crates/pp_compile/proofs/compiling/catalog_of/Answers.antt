use Rattle.std.proofs.Common.{sym, subst}
use Rattle.pp_eval.specs.Evaluating.{AnswersBy}
use Rattle.pp_eval.specs.Scoping.{pairs_in}
use Rattle.catalog_semantics.specs.Sites.{site_of}
use Rattle.catalog_semantics.specs.Catalogs.{catalog_from}
use Rattle.pp_compile.proofs.SourceLaws.{site_known, site_refused, answered}
use Rattle.pp_compile.proofs.compiling.catalog_of.Goals as goal

pub returns : goal.returns
returns c =
    subst (λ v. AnswersBy (λ x. x) v c.catalog_from.result)
    (sym (site_known (site_of c.args.manifest.now c.args.levels.now (pairs_in c.args.facts.now) c.args.node.now) (λ site. catalog_from site c.args.manifest.now.items c.args.facts.now c.args.limits) c.in_ok-site.site c.in_ok-site.ensures))
    c.catalog_from.ensures

pub returns-in_err-site : goal.returns-in_err-site
returns-in_err-site c =
    answered _ c.from_residual.result c.in_err-site.field-0.0 c.from_residual.ensures.1
    (site_refused (site_of c.args.manifest.now c.args.levels.now (pairs_in c.args.facts.now) c.args.node.now) (λ site. catalog_from site c.args.manifest.now.items c.args.facts.now c.args.limits) c.in_err-site.field-0.0 c.in_err-site.ensures)
