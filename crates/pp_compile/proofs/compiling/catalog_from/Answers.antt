use Rattle.std.proofs.Common.{sym, subst}
use Rattle.pp_eval.specs.Evaluating.{AnswersBy}
use Rattle.catalog_semantics.specs.Catalogs.{round_limit}
use Rattle.pp_compile.specs.Rounds.{catalog_after}
use Rattle.pp_compile.proofs.RoundLaws.{catalog_is}
use Rattle.pp_compile.proofs.compiling.catalog_from.Goals as goal

pub returns : goal.returns
returns c =
    subst (λ v. AnswersBy (λ x. x) v c.catalog_after.result) (sym (catalog_is (round_limit c.args.limits) c.args.site.now c.args.manifest.now.items c.args.facts.now c.args.limits))
    (subst (λ n. AnswersBy (λ x. x) (catalog_after n c.args.site.now c.args.manifest.now.items c.args.facts.now c.args.limits) c.catalog_after.result) c.round_limit.ensures c.catalog_after.ensures)
