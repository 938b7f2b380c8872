use Rattle.serde_json.specs.View.{items_view}
use Rattle.compiled_text.specs.Reading.{resources_of}
use Rattle.compiled_text.proofs.ReadLaws.{next_resource}
use Rattle.compiled_text.proofs.resources.resources_of.Goals as goal

pub loop-item-preserved : goal.loop-item-preserved
loop-item-preserved c =
    next_resource c.loop-item.resources c.push.new.self c.args.items.now c.loop-item.item-index c.item-item.result c.in_ok-resource_of.field-0 (resources_of (items_view c.args.items.now)) c.loop-item-test.true c.item-item.is
    c.in_ok-resource_of.ensures.resource c.in_ok-resource_of.ensures.proper c.in_ok-push.ensures.ok c.loop-item.invariant
