use Rattle.std.proofs.Common.{◌+◌, drop, ap, sym, ◌∙◌}
use Rattle.std.proofs.lemmas.List.{at_drop_more}
use Rattle.compiled_attributes.specs.Places.{with_places}
use Rattle.compiled_attributes.proofs.fragments.add_places.Goals as goal

pub loop-place-preserved : goal.loop-place-preserved
loop-place-preserved c =
    let more = c.args.more.now in
    let at = c.loop-place.place-index in
    ap (λ ps. with_places ps (drop (at + 1) more)) c.in_ok-insert.ensures.keys
    ∙ (sym (at_drop_more (λ left. with_places c.loop-place.places.keys left) more at 0 c.loop-place-test.true) ∙ c.loop-place.invariant)
