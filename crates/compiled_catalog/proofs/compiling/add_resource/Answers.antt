-- That one resource more is added to the catalog, or refused.
use Rattle.std.proofs.Common.{◌≡◌, ap, sym, subst, ◌∙◌}
use Rattle.pp_eval.specs.Evaluating.{Refuses}
use Rattle.catalog.specs.Adding.{with_added}
use Rattle.compiled_catalog.specs.Catalogs.{with_one, resource_at}
use Rattle.compiled_catalog.specs.Steps.{catalog_with}
use Rattle.compiled_catalog.proofs.Growing.{added_is, first_more}
use Rattle.compiled_catalog.proofs.compiling.add_resource.Goals.{In_ok-resource}
use Rattle.compiled_catalog.proofs.compiling.add_resource.Goals as goal

module _ (c : In_ok-resource) where
  -- adding the resource is adding the one that is due at its place
  as_one :
      with_added c.args.limits c.in_ok-resource.resource c.args.catalog.now ≡ with_added c.args.limits (resource_at c.args.compiled.now c.args.place c.args.r.now c.in_ok-attributes.attributes) c.args.catalog.now
  as_one = ap (λ x. with_added c.args.limits x c.args.catalog.now) c.in_ok-resource.ensures

  -- and that is what is due of the catalog with one more
  answered : with_added c.args.limits c.in_ok-resource.resource c.args.catalog.now ≡ catalog_with (with_one c.args.compiled.now c.args.catalog.now.resources c.args.r.now)
  answered =
      as_one
      ∙ added_is c.args.limits c.args.compiled.now c.args.place c.args.catalog.now c.args.r.now c.in_ok-attributes.attributes c.requires.sound c.requires.few c.requires.there c.requires.first c.in_ok-attributes.ensures

pub returns-in-Ok-clause-answers : goal.returns-in-Ok-clause-answers
returns-in-Ok-clause-answers c = sym (answered (goal.at.returns-in-Ok-clause-answers c).In_ok-resource) ∙ c.in-Ok.ensures.answers

pub returns-in-Ok-clause-first : goal.returns-in-Ok-clause-first
returns-in-Ok-clause-first c =
    first_more c.args.limits c.args.compiled.now c.args.place c.args.catalog.now c.args.r.now c.in_ok-attributes.attributes c.requires.sound c.requires.few c.requires.there c.requires.first c.in_ok-attributes.ensures c.add.new.self
    (sym (as_one (goal.at.returns-in-Ok-clause-first c).In_ok-resource) ∙ c.in-Ok.ensures.answers)

pub returns-in-Err-clause-answers : goal.returns-in-Err-clause-answers
returns-in-Err-clause-answers c = subst (λ answer. Refuses answer c.in-Err.fault) (answered (goal.at.returns-in-Err-clause-answers c).In_ok-resource) c.in-Err.ensures.answers
