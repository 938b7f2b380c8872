use Rattle.effect_sets.specs.Members.{members}
use Rattle.effect_sets.specs.Telling.{found_footprint}
use Rattle.effect_sets.specs.Footprints.{see}
use Rattle.effect_sets.proofs.FoundLaws.{on_ok, with_removed}
use Rattle.effect_sets.proofs.found.remove.Goals as goal

pub returns : goal.returns
returns c = on_ok c.add-2.result (with_removed (found_footprint c.args.found.now) (members c.see_at.new.reads) (see c.args.p.now (members c.args.sure.now)) (members c.add.new.set) (members c.add-2.new.set) c.args.p.now c.in_ok-see_at.ensures c.in_ok-add.ensures) c.add-2.ensures
