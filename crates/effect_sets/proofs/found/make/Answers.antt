use Rattle.std.proofs.Common.{ap, ◌∙◌}
use Rattle.effect_sets.specs.Members.{members}
use Rattle.effect_sets.specs.Telling.{found_footprint}
use Rattle.effect_sets.specs.Footprints.{see}
use Rattle.std.specs.Prelude.{◌||◌}
use Rattle.fs_semantics.specs.FileTree.{parent}
use Rattle.effect_sets.proofs.FoundLaws.{on_ok, with_reads_writes, seen_both}
use Rattle.effect_sets.proofs.found.make.Goals as goal

pub returns : goal.returns
returns c =
    let p = c.args.p.now in
    let sure = members c.args.sure.now in
    let both = seen_both (members c.args.found.now.reads) (members c.see_at.new.reads) (members c.see_at-2.new.reads) sure p (parent p) c.in_ok-see_at.ensures (c.in_ok-see_at-2.ensures ∙ ap (λ r q. members c.see_at.new.reads q || see r sure q) c.in_ok-above.ensures) in
    on_ok c.add.result (with_reads_writes (found_footprint c.args.found.now) (members c.see_at-2.new.reads) (λ q. see p sure q || see (parent p) sure q) (members c.add.new.set) p both) c.add.ensures
