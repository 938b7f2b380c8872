-- That the catalog has all resources one after another, or is refused.
use Rattle.std.proofs.Common.{◌≡◌, List, Some, slice_get, subst}
use Rattle.compiled_text.specs.declared.catalog.CompiledResource.{CompiledResource}
use Rattle.compiled_catalog.proofs.Growing.{there, goes_on, ends}
use Rattle.compiled_catalog.proofs.compiling.add_resources.Goals.{After-add_resource}
use Rattle.compiled_catalog.proofs.compiling.add_resources.Goals as goal

module _ (c : After-add_resource) where
  -- the resource at the place of the loop stands there
  stands : slice_get c.args.compiled.now.resources c.loop-place.place ≡ Some c.index-resources-place.result
  stands =
      subst (λ (rs : List CompiledResource). slice_get rs c.loop-place.place ≡ Some c.index-resources-place.result) c.resources-resources.ensures.resources
      (there c.resources-resources.result.now c.loop-place.place c.index-resources-place.result c.index-resources-place.is c.loop-place-test.true)

pub returns-in-Err : goal.returns-in-Err
returns-in-Err c =
    ends c.args.compiled.now c.loop-place.place c.loop-place.catalog c.index-resources-place.result (stands (goal.at.returns-in-Err c).After-add_resource) c.loop-place.invariant c.in-Err.fault c.in-Err.ensures.answers

pub loop-place-preserved : goal.loop-place-preserved
loop-place-preserved c =
    goes_on c.args.compiled.now c.loop-place.place c.loop-place.catalog c.index-resources-place.result (stands (goal.at.loop-place-preserved c).After-add_resource) c.loop-place.invariant c.add_resource.new.catalog
    c.in-Ok.ensures.answers c.in-Ok.ensures.first
