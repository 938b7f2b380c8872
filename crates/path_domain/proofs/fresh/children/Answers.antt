use Rattle.std.proofs.Common.{◌∙◌}
use Rattle.std.specs.Map.Iter.{deref}
use Rattle.std.proofs.lemmas.Map.Iter.{rest_more}
use Rattle.path_domain.specs.Gathered.{members}
use Rattle.path_domain.proofs.LaidLaws.{child_put}
use Rattle.path_domain.proofs.fresh.children.Goals as goal

pub loop-p-preserved : goal.loop-p-preserved
loop-p-preserved c q =
    let next = rest_more deref c.loop-p.p-iterator c.next.new.self c.next.result c.in-Some.p c.in-Some.is c.next.ensures.steps in
    child_put c.loop-p.p-iterator c.next.new.self c.in-Some.p.now c.in_ok-child.field-0 c.args.name.now (members c.loop-p.set) (members c.put.new.set) q next c.in_ok-child.ensures c.in_ok-put.ensures
    ∙ c.loop-p.invariant q
