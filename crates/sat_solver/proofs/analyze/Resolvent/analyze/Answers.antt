use Rattle.sat_solver.proofs.analyze.Resolvent.analyze.Goals as goal

pub returns : goal.returns
returns c = record {
  uip = c.in_ok-place.ensures.left;
  long = c.in_ok-place.ensures.long;
  covered = c.in_ok-place.ensures.resolves.covered c.in_ok-begin.ensures.covered;
  leads = c.in_ok-place.ensures.resolves.leads _ c.in_ok-begin.ensures.leads;
}
