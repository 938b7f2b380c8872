use Rattle.std.proofs.Common.{◌++◌, refl, ap, ◌∙◌}
use Rattle.compiled_relations.specs.Links.{files_from, pairs_from, ahead_of, link_target, link_pairs}
use Rattle.compiled_relations.proofs.PartLaws.{next_part}
use Rattle.compiled_relations.proofs.links.link_pairs.Goals as goal

pub loop-place-preserved : goal.loop-place-preserved
loop-place-preserved c =
    next_part (pairs_from (files_from 0 c.args.catalog.now.resources)) (λ n r. ahead_of (files_from 0 c.args.catalog.now.resources) n r (link_target r)) (λ n r rs. refl) c.loop-place.pairs c.push_ahead.new.pairs
    (link_pairs c.args.catalog.now) c.args.catalog.now.resources c.loop-place.place c.get.result.now c.get.ensures c.loop-place.invariant
    (c.in_ok-push_ahead.ensures ∙ ap (λ files. c.loop-place.pairs ++ ahead_of files c.loop-place.place c.get.result.now (link_target c.get.result.now)) (c.as_slice.ensures ∙ c.in_ok-files.ensures))
