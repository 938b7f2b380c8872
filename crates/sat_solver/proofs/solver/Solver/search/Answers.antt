use Rattle.std.proofs.Common.{◌≡◌, ◌∙◌, subst}
use Rattle.cnf.specs.Formulas.{Formula}
use Rattle.sat_solver.specs.Turning.{Turns}
use Rattle.sat_solver.specs.Solving.{IsLogged}
use Rattle.sat_solver.proofs.Ending.{falls}
use Rattle.sat_solver.proofs.solver.Solver.search.Goals as goal

pub turns-smaller : goal.turns-smaller
turns-smaller c =
    let a = c.turns.self in
    let n = c.turn.new.self in
    let f = c.args.self.formula.now in
    let h = subst (Turns a n) c.in-Goes.is c.in_ok-turn.ensures.turns in
    let d : n.formula.now ≡ f = c.in_ok-turn.ensures.task.formula ∙ c.turns.invariant.task.formula in
    falls f n.propagator.store a.propagator.trail n.propagator.trail a.steps n.steps c.vars-vars.ensures.formula (subst (λ (x : Formula). IsLogged x n.propagator.store n.steps) d h.0.ongoing.logged) h.2 h.3
