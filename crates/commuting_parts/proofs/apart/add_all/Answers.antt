use Rattle.std.proofs.Common.{◌∙◌}
use Rattle.std.specs.Map.Iter.{deref}
use Rattle.std.proofs.lemmas.Map.Iter.{rest_more}
use Rattle.effect_sets.specs.Members.{members}
use Rattle.commuting_parts.proofs.SetLaws.{one_added}
use Rattle.commuting_parts.proofs.apart.add_all.Goals as goal

pub loop-p-preserved : goal.loop-p-preserved
loop-p-preserved c q =
    let next = rest_more deref c.loop-p.p-iterator c.next.new.self c.next.result c.in-Some.p c.in-Some.is c.next.ensures.steps in
    one_added c.loop-p.p-iterator c.next.new.self c.in-Some.p.now (members c.loop-p.into) (members c.add.new.set) q next c.in_ok-add.ensures
    ∙ c.loop-p.invariant q
