use Rattle.std.proofs.Common.{sym, subst}
use Rattle.cnf.specs.Proofs.{IsAccepted}
use Rattle.sat_solver.specs.Solving.{known}
use Rattle.sat_solver.proofs.Logging.{accepted}
use Rattle.sat_solver.proofs.solver.Solver.refute.Goals as goal

pub returns-clause-accepted : goal.returns-clause-accepted
returns-clause-accepted c =
    let s = c.args.self.now in
    let f = s.formula.now in
    let o = c.requires.conflict.ongoing in
    subst (IsAccepted f) (sym c.in_ok-push.ensures.ok) (accepted f s.propagator.store s.steps c.in_ok-step.step o.logged (c.in_ok-step.ensures.right (known f.clauses s.steps) o.logged.stored) c.in_ok-step.ensures.empty)
