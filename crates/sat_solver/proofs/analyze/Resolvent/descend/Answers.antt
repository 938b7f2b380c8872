use Rattle.std.proofs.Common.{◌≡◌, ℕ, ◌+◌, ◌-◌, sym, ap, subst, arith}
use Rattle.sat_solver.specs.Resolving.{IsMarked, IsLeft}
use Rattle.sat_solver.specs.declared.analyze.Resolvent.{Resolvent}
use Rattle.sat_solver.proofs.Analyzing.{resolves_then}
use Rattle.sat_solver.proofs.Passing.{left, nothing_left}
use Rattle.sat_solver.proofs.analyze.Resolvent.descend.Goals as goal

pub returns-then-found-clause-left : goal.returns-then-found-clause-left
returns-then-found-clause-left c =
    let t = c.args.graph.now.trail.now in
    let r = c.walk.self in
    let p = c.walk.place - 1 in
    let b = c.args.graph.now.boundary in
    let i = c.in_ok-found.ensures.found c.if-found.true in
    let e : c.walk.place ≡ p + 1 = omega arith in
    let h = subst (λ (n : ℕ). IsMarked t.literals t.vars b n r.seen.items r.pending) e c.walk.invariant.counted in
    let high = c.walk.invariant.high in
    subst (IsLeft t.literals b p) (sym (ap (λ (z : Resolvent). z.seen.items) i.0)) (left t.literals t.vars b p r.seen.items r.pending c.requires.graph.apart (omega arith) (omega arith) h i.1 i.2)

pub unreachable-requires : goal.unreachable-requires
unreachable-requires c = nothing_left c.args.graph.now.trail.now.literals c.args.graph.now.trail.now.vars c.args.graph.now.boundary c.walk.place c.walk.self.seen.items c.walk.self.pending c.walk.invariant.counted c.walk-test.false c.walk.invariant.some

pub returns-then-found-clause-resolves : goal.returns-then-found-clause-resolves
returns-then-found-clause-resolves c = resolves_then c.args.graph.now c.args.self.now c.walk.self c.pass.new.self c.walk.invariant.resolves c.in_ok-found.ensures.resolves

pub walk-preserved : goal.walk-preserved
walk-preserved c =
    let on = c.walk-test.true in
    let low = c.walk.invariant.low in
    let high = c.walk.invariant.high in
    record {
      low = omega arith;
      high = omega arith;
      some = c.in_ok-found.ensures.some c.if-found.false;
      counted = c.in_ok-found.ensures.counted c.if-found.false;
      resolves = resolves_then c.args.graph.now c.args.self.now c.walk.self c.pass.new.self c.walk.invariant.resolves c.in_ok-found.ensures.resolves;
    }
