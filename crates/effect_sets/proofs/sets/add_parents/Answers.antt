use Rattle.std.proofs.Common.{◌∙◌}
use Rattle.std.specs.Map.Iter.{deref}
use Rattle.std.proofs.lemmas.Map.Iter.{rest_more}
use Rattle.effect_sets.specs.Members.{members}
use Rattle.effect_sets.proofs.SetLaws.{one_parent}
use Rattle.effect_sets.proofs.sets.add_parents.Goals as goal

pub loop-p-preserved : goal.loop-p-preserved
loop-p-preserved c q =
    let next = rest_more deref c.loop-p.p-iterator c.next.new.self c.next.result c.in-Some.p c.in-Some.is c.next.ensures.steps in
    one_parent c.loop-p.p-iterator c.next.new.self c.in-Some.p.now (members c.loop-p.into) (members c.add_parent.new.into) q next c.in_ok-add_parent.ensures
    ∙ c.loop-p.invariant q
