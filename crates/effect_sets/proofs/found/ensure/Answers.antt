use Rattle.std.proofs.Common.{ap, ◌∙◌}
use Rattle.effect_sets.specs.Members.{members}
use Rattle.effect_sets.specs.Telling.{found_footprint}
use Rattle.effect_sets.specs.Footprints.{see}
use Rattle.std.specs.Prelude.{◌||◌}
use Rattle.fs_semantics.specs.FileTree.{parent}
use Rattle.effect_sets.proofs.FoundLaws.{on_ok, with_reads_folders}
use Rattle.effect_sets.proofs.found.ensure.Goals as goal

pub returns : goal.returns
returns c =
    let p = c.args.p.now in
    let sure = members c.args.sure.now in
    let read = c.in_ok-see_at.ensures ∙ ap (λ r q. members c.args.found.now.reads q || see r sure q) c.in_ok-above.ensures in
    on_ok c.add.result (with_reads_folders (found_footprint c.args.found.now) (members c.see_at.new.reads) (see (parent p) sure) (members c.add.new.set) p read) c.add.ensures
