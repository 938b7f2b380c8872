use Rattle.compiled_relations.specs.Links.{has_pair, related_pairs}
use Rattle.compiled_relations.proofs.PartLaws.{next_pairs}
use Rattle.compiled_relations.proofs.related.related_pairs.Goals as goal

pub loop-place-preserved : goal.loop-place-preserved
loop-place-preserved c p =
    next_pairs c.args.catalog.now c.loop-place.pairs c.insert_resource.new.pairs c.args.catalog.now.resources c.loop-place.place c.get.result.now p (has_pair (related_pairs c.args.catalog.now) p) c.get.ensures
    (c.in_ok-insert_resource.ensures p) (c.loop-place.invariant p)
