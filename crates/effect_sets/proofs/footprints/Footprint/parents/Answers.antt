use Rattle.std.proofs.Common.{◌||◌, ap, ◌∙◌}
use Rattle.effect_sets.specs.Members.{Lists, is_parent_of}
use Rattle.effect_sets.proofs.footprints.Footprint.parents.Goals as goal

pub returns : goal.returns
returns c q =
    c.self.invariant q ∙ ap (λ (l : Lists). is_parent_of q l.writes || is_parent_of q l.folders) c.self.view_is
