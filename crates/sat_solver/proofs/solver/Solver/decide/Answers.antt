use Rattle.std.proofs.Common.{refl, sym, subst, ap, ◌∙◌}
use Rattle.unit_propagation.specs.Trails.{Way}
use Rattle.unit_propagation.specs.Watching.{IsReady}
use Rattle.sat_solver.proofs.Deciding.{decided}
use Rattle.sat_solver.proofs.solver.Solver.decide.Goals as goal

pub decide-requires-clause-below : goal.decide-requires-clause-below
decide-requires-clause-below c = (c.in-Some.ensures.some c.in-Some.literal refl).0

pub returns-in_ok-decide-in-Some-clause-state : goal.returns-in_ok-decide-in-Some-clause-state
returns-in_ok-decide-in-Some-clause-state c =
    let s = c.args.self.now in
    let h = c.requires.rest.state in
    let w = c.in-Some.ensures.some c.in-Some.literal refl in
    let e = c.in_ok-decide-in-Some.ensures.ok in
    record {
      ready = subst (λ (x : Way). IsReady s.propagator.store x s.propagator.watches) (sym e) (decided s.propagator.store s.propagator.trail s.propagator.watches c.in-Some.literal h.ready c.requires.rest.end w.0 w.1 w.2);
      ongoing = record { logged = h.ongoing.logged; vars = ap (λ (x : Way). x.vars) e ∙ h.ongoing.vars; blank = h.ongoing.blank };
    }
