use Rattle.std.proofs.Common.{length, subst, ◌<◌}
use Rattle.path_domain.specs.Gathered.{members}
use Rattle.path_domain.proofs.LaidLaws.{front_put}
use Rattle.path_domain.proofs.fronts.add_fronts.Goals as goal

pub loop-k-preserved : goal.loop-k-preserved
loop-k-preserved c q =
    let below = subst (λ p. c.loop-k.k < length p) c.segments-k-end.ensures.value c.loop-k-test.true in
    front_put c.args.p.now c.in_ok-front.front c.loop-k.k (members c.args.set.now) (members c.loop-k.set) (members c.put.new.set) q below c.in_ok-front.ensures (c.loop-k.invariant q) c.in_ok-put.ensures
