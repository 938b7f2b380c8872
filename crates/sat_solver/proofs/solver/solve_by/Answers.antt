use Rattle.sat_solver.proofs.solver.solve_by.Goals as goal

pub refute_at_once-requires-clause-unsatisfied : goal.refute_at_once-requires-clause-unsatisfied
refute_at_once-requires-clause-unsatisfied c = c.in_ok-conflict.ensures.broken c.in-Some.conflict c.in-Some.is
