use Rattle.std.proofs.Common.{ap, ◌∙◌}
use Rattle.effect_sets.specs.Footprints.{joined, looking, making}
use Rattle.effect_sets.specs.Members.{members}
use Rattle.effect_sets.specs.Telling.{found_footprint}
use Rattle.effect_sets.proofs.FoundLaws.{on_ok, joined_assoc}
use Rattle.effect_sets.proofs.walk.walk_copy.Goals as goal

pub returns : goal.returns
returns c =
    let first = looking c.args.from.now (members c.args.sure.now) in
    let second = making c.args.p.now (members c.args.sure.now) in
    on_ok c.make.result (λ h. h ∙ ap (λ x. joined x second) c.in_ok-look.ensures ∙ joined_assoc (found_footprint c.args.found.now) first second) c.make.ensures
