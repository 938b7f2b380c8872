use Rattle.std.proofs.Common.{◌∙◌}
use Rattle.std.specs.Map.Iter.{deref}
use Rattle.std.proofs.lemmas.Map.Iter.{rest_more}
use Rattle.path_domain.specs.Gathered.{members}
use Rattle.path_domain.proofs.LaidLaws.{path_put}
use Rattle.path_domain.proofs.fresh.add_all.Goals as goal

pub loop-p-preserved : goal.loop-p-preserved
loop-p-preserved c q =
    let next = rest_more deref c.loop-p.p-iterator c.next.new.self c.next.result c.in-Some.p c.in-Some.is c.next.ensures.steps in
    path_put c.loop-p.p-iterator c.next.new.self c.in-Some.p.now (members c.loop-p.into) (members c.add.new.set) q next c.in_ok-add.ensures ∙ c.loop-p.invariant q
