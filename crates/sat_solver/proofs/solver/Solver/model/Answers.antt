use Rattle.std.proofs.Common.{◌≡◌, arith}
use Rattle.sat_solver.proofs.Logging.{satisfied}
use Rattle.sat_solver.proofs.solver.Solver.model.Goals as goal

pub returns-clause-satisfies : goal.returns-clause-satisfies
returns-clause-satisfies c =
    let s = c.args.self.now in
    let h = c.requires.rest in
    let count : c.vars.result ≡ s.formula.now.vars = c.vars.ensures.count in
    let v = h.state.ongoing.vars in
    satisfied s.formula.now s.propagator.store s.propagator.trail s.propagator.watches s.steps c.in_ok-model.model h.state.ongoing.logged h.state.ready.sound h.rest c.requires.full (λ i l. c.in_ok-model.ensures.is i (omega arith))
