use Rattle.sat_solver.proofs.Ending.{loaded_none}
use Rattle.sat_solver.proofs.solver.Solver.new.Goals as goal

pub returns-clause-loaded : goal.returns-clause-loaded
returns-clause-loaded c = loaded_none c.args.formula.now c.in_ok-store.store c.in_ok-trail.trail c.in_ok-watches.watches c.vars-vars.result c.in_ok-store.ensures c.in_ok-trail.ensures c.vars-vars.ensures.count c.in_ok-watches.ensures.long c.in_ok-watches.ensures.none
