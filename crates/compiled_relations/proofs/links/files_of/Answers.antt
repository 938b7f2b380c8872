use Rattle.std.proofs.Common.{refl}
use Rattle.compiled_relations.specs.Links.{files_from, file_at, managed_path}
use Rattle.compiled_relations.proofs.PartLaws.{next_part}
use Rattle.compiled_relations.proofs.links.files_of.Goals as goal

pub loop-place-preserved : goal.loop-place-preserved
loop-place-preserved c =
    next_part files_from (λ i r. file_at i (managed_path r)) (λ i r rs. refl) c.loop-place.files c.push_file.new.files (files_from 0 c.args.catalog.now.resources) c.args.catalog.now.resources c.loop-place.place c.get.result.now
    c.get.ensures c.loop-place.invariant c.in_ok-push_file.ensures
