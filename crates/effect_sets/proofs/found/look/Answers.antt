use Rattle.effect_sets.specs.Members.{members}
use Rattle.effect_sets.specs.Telling.{found_footprint}
use Rattle.effect_sets.specs.Footprints.{see}
use Rattle.effect_sets.proofs.FoundLaws.{on_ok, with_reads}
use Rattle.effect_sets.proofs.found.look.Goals as goal

pub returns : goal.returns
returns c = on_ok c.see_at.result (with_reads (found_footprint c.args.found.now) (members c.see_at.new.reads) (see c.args.p.now (members c.args.sure.now))) c.see_at.ensures
