use Rattle.std.proofs.Common.{◌∙◌}
use Rattle.std.specs.Map.Iter.{deref}
use Rattle.std.proofs.lemmas.Map.Iter.{rest_more}
use Rattle.effect_sets.specs.Members.{members}
use Rattle.effect_sets.proofs.SetLaws.{one_shared}
use Rattle.effect_sets.proofs.sets.common.Goals as goal

pub loop-p-preserved : goal.loop-p-preserved
loop-p-preserved c q =
    let next = rest_more deref c.loop-p.p-iterator c.next.new.self c.next.result c.in-Some.p c.in-Some.is c.next.ensures.steps in
    one_shared c.loop-p.p-iterator c.next.new.self c.in-Some.p.now (members c.args.b.now) (members c.loop-p.shared) (members c.add_if_in.new.into) q next c.in_ok-add_if_in.ensures
    ∙ c.loop-p.invariant q
