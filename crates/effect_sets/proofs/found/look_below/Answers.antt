use Rattle.effect_sets.specs.Members.{members}
use Rattle.effect_sets.specs.Telling.{found_footprint}
use Rattle.effect_sets.specs.Footprints.{see}
use Rattle.effect_sets.proofs.FoundLaws.{on_ok, with_reads_children}
use Rattle.effect_sets.proofs.found.look_below.Goals as goal

pub returns : goal.returns
returns c = on_ok c.add.result (with_reads_children (found_footprint c.args.found.now) (members c.see_at.new.reads) (see c.args.p.now (members c.args.sure.now)) (members c.add.new.set) c.args.p.now c.in_ok-see_at.ensures) c.add.ensures
