use Rattle.std.proofs.Common.{◌∙◌}
use Rattle.std.specs.Map.Iter.{deref}
use Rattle.std.proofs.lemmas.Map.Iter.{rest_more}
use Rattle.size_limits.specs.Weights.{count_in}
use Rattle.size_limits.proofs.WeightLaws.{one_child}
use Rattle.size_limits.proofs.counts.children_of.Goals as goal

pub loop-p-preserved : goal.loop-p-preserved
loop-p-preserved c q =
    let next = rest_more deref c.loop-p.p-iterator c.next.new.self c.next.result c.in-Some.p c.in-Some.is c.next.ensures.steps in
    one_child c.loop-p.p-iterator c.next.new.self c.in-Some.p.now q (count_in c.loop-p.counts q) (count_in c.add_child.new.counts q) next (c.in_ok-add_child.ensures q) ∙ c.loop-p.invariant q
