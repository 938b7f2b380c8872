use Rattle.std.proofs.Common.{length, ap, ◌∙◌}
use Rattle.sat_solver.proofs.Analyzing.{analyzed_on}
use Rattle.sat_solver.proofs.analyze.Resolvent.minimize.Goals as goal

pub shrink-requires-clause-idle : goal.shrink-requires-clause-idle
shrink-requires-clause-idle c = record {
  none_open = c.look_ahead.ensures.idle;
  long = ap (λ (z : _). length z.items) c.look_ahead.ensures.seen ∙ c.requires.long;
}

pub returns : goal.returns
returns c conflict p found =
    let e = c.look_ahead.ensures in
    analyzed_on c.args.graph.now conflict p c.args.self.now c.look_ahead.new.self c.shrink.new.self found e.seen e.marked e.resolutions c.in_ok-shrink.ensures.idle c.in_ok-shrink.ensures.shrinks
