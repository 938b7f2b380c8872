use Rattle.sat_solver.proofs.analyze.Resolvent.refute.Goals as goal

pub returns-clause-leads : goal.returns-clause-leads
returns-clause-leads c = c.in_ok-descend_all.ensures.resolves.leads _ c.in_ok-begin_all.ensures.leads
