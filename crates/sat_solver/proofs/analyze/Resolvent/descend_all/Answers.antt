use Rattle.std.proofs.Common.{arith}
use Rattle.sat_solver.proofs.Analyzing.{resolves_then}
use Rattle.sat_solver.proofs.analyze.Resolvent.descend_all.Goals as goal

pub walk-preserved : goal.walk-preserved
walk-preserved c =
    let high = c.walk.invariant.high in
    record {
      high = omega arith;
      counted = c.in_ok-pass_all.ensures.counted;
      resolves = resolves_then c.args.graph.now c.args.self.now c.walk.self c.pass_all.new.self c.walk.invariant.resolves c.in_ok-pass_all.ensures.resolves;
    }
