use Rattle.std.proofs.Common.{map}
use Rattle.std.specs.Map.Iter.{deref}
use Rattle.std.proofs.lemmas.Map.Iter.{rest_more}
use Rattle.compiled_attributes.specs.Places.{at_places}
use Rattle.compiled_attributes.proofs.PlaceLaws.{next_place}
use Rattle.compiled_attributes.proofs.fragments.at_places.Goals as goal

pub loop-place-preserved : goal.loop-place-preserved
loop-place-preserved c =
    let next = rest_more deref c.loop-place.place-iterator c.next.new.self c.next.result c.in-Some.place c.in-Some.is c.next.ensures.steps in
    next_place c.args.resources.now (map (λ r. r.now) c.loop-place.found.items) (map (λ r. r.now) c.push_at.new.found.items) (at_places c.args.resources.now c.args.places.now.keys)
    c.in-Some.place.now c.loop-place.place-iterator c.next.new.self next c.loop-place.invariant c.in_ok-push_at.ensures
