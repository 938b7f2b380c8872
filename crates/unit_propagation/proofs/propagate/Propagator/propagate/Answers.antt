use Rattle.std.proofs.Common.{◌≡◌, [], take, get_or, None, refl, sym, ap, ◌∙◌, subst, arith}
use Rattle.std.proofs.Math.ListN.{set}
use Rattle.unit_propagation.specs.Literals.{opposite}
use Rattle.unit_propagation.specs.Trails.{Way}
use Rattle.unit_propagation.specs.Watching.{IsScanning, AtRest}
use Rattle.unit_propagation.specs.Visits.{Ends}
use Rattle.unit_propagation.proofs.Marks.{opposite_below, has_at}
use Rattle.unit_propagation.proofs.Scans.{begun, at_rest}
use Rattle.unit_propagation.proofs.Extending.{extends_on, extends_step}
use Rattle.unit_propagation.proofs.propagate.Propagator.propagate.Goals as goal

pub propagate_literal-requires-clause-below : goal.propagate_literal-requires-clause-below
propagate_literal-requires-clause-below c =
    let t = c.literals.self.trail in
    let r = c.literals.invariant.ready in
    let s = c.in-Some.ensures.some c.in-Some.literal refl in
    let lt = r.sound.below (get_or t.literals t.done 0) (has_at t.literals t.done s.0) in
    let o = opposite_below (get_or t.literals t.done 0) t.vars lt in
    let e : c.opposite.result ≡ opposite (get_or t.literals t.done 0) = c.opposite.ensures ∙ ap opposite s.1 in
    let long = r.sound.long in
    omega arith

pub propagate_literal-requires-clause-scanning : goal.propagate_literal-requires-clause-scanning
propagate_literal-requires-clause-scanning c =
    let t = c.literals.self.trail in
    let w = c.literals.self.watches in
    let o = c.opposite.result in
    let s = c.in-Some.ensures.some c.in-Some.literal refl in
    let e : o ≡ opposite (get_or t.literals t.done 0) = c.opposite.ensures ∙ ap opposite s.1 in (
      take t.done t.literals,
      subst (λ (x : Way). IsScanning (take t.done t.literals) c.literals.self.store x (set w o []) [] (get_or w o []) o None) (sym s.2)
          (begun c.literals.self.store t w o c.literals.invariant.ready s.0 e (propagate_literal-requires-clause-below c)),
    )

pub returns-in-Some-2-clause-goes : goal.returns-in-Some-2-clause-goes
returns-in-Some-2-clause-goes c =
    let s = c.in-Some.ensures.some c.in-Some.literal refl in
    extends_on c.args.self.now.store c.literals.self.store c.propagate_literal.new.self.store c.args.self.now.trail c.literals.self.trail c.propagate_literal.new.self.trail c.literals.invariant.goes
    (extends_step c.literals.self.store c.propagate_literal.new.self.store c.literals.self.trail c.next.new.self c.propagate_literal.new.self.trail s.2 c.in_ok-found.ensures.goes)

pub literals-preserved : goal.literals-preserved
literals-preserved c =
    let s = c.in-Some.ensures.some c.in-Some.literal refl in
    record {
      goes = extends_on c.args.self.now.store c.literals.self.store c.propagate_literal.new.self.store c.args.self.now.trail c.literals.self.trail c.propagate_literal.new.self.trail c.literals.invariant.goes
          (extends_step c.literals.self.store c.propagate_literal.new.self.store c.literals.self.trail c.next.new.self c.propagate_literal.new.self.trail s.2 c.in_ok-found.ensures.goes);
      ready = subst (Ends c.propagate_literal.new.self.store c.propagate_literal.new.self.trail c.propagate_literal.new.self.watches) c.in-None.is c.in_ok-found.ensures.ends;
    }

pub returns-clause-rest : goal.returns-clause-rest
returns-clause-rest c none =
    let s = c.in_default.ensures.none refl in
    subst (λ (x : Way). AtRest c.literals.self.store x.literals) (sym s.0) (at_rest c.literals.self.store c.literals.self.trail c.literals.self.watches c.literals.invariant.ready s.1)
