use Rattle.std.proofs.Common.{◌≡◌, ℕ, ◌+◌, ◌-◌, ◌<◌, List, length, take, get_or, sym, ap, ◌∙◌, subst, arith}
use Rattle.unit_propagation.specs.Literals.{opposite, has}
use Rattle.sat_solver.specs.declared.analyze.Resolution.{Resolution}
use Rattle.unit_propagation.specs.Watching.{AtRest}
use Rattle.sat_solver.specs.Resolving.{IsLeft, is_seen, in_clause}
use Rattle.sat_solver.specs.Meaning.{IsDerived}
use Rattle.unit_propagation.proofs.Marks.{half_opposite}
use Rattle.sat_solver.proofs.Covering.{and_left}
use Rattle.sat_solver.proofs.Analyzing.{graph_last}
use Rattle.sat_solver.proofs.Steps.{rested_last, step_of, derived, fresh, learnable}
use Rattle.sat_solver.proofs.analyze.Resolvent.derive.Goals as goal

pub analyze-requires-clause-graph : goal.analyze-requires-clause-graph
analyze-requires-clause-graph c =
    let e = c.level-last.ensures in
    graph_last _ c.args.propagator.now.watches c.level-last.result e.count c.requires.decided c.start-boundary.ensures.start e.rising c.requires.stopped.sound c.len-limit.ensures.apart c.len-limit.ensures.few

pub analyze-requires-clause-conflict : goal.analyze-requires-clause-conflict
analyze-requires-clause-conflict c =
    let t = c.args.propagator.now.trail in
    let f = c.args.propagator.now.store in
    let w = c.args.propagator.now.watches in
    let s = c.requires.stopped in
    let last = c.level-last.result - 1 in
    let some = c.requires.decided in
    let count : c.level-last.result ≡ length t.starts = c.level-last.ensures.count in
    let end : last + 1 ≡ length t.starts = omega arith in
    let start = c.start-boundary.ensures.start in
    let begun = (c.level-last.ensures.rising last (omega arith)).0 in
    record {
      decided = subst (λ (b : ℕ). b < length t.literals) (sym start) begun;
      is_false = s.found;
      rested = subst (λ (b : ℕ). AtRest f (take b t.literals)) (sym start) (rested_last f t w last end c.level-last.ensures.rising s.sound s.listed);
    }

pub minimize-requires-clause-graph : goal.minimize-requires-clause-graph
minimize-requires-clause-graph c =
    let e = c.level-last.ensures in
    graph_last _ c.args.propagator.now.watches c.level-last.result e.count c.requires.decided c.start-boundary.ensures.start e.rising c.requires.stopped.sound c.len-limit.ensures.apart c.len-limit.ensures.few

pub collect-requires-clause-covers : goal.collect-requires-clause-covers
collect-requires-clause-covers c = (c.in_ok-minimize.ensures c.args.conflict c.in_ok-place.place c.in_ok-place.ensures).covered

pub collect-requires-clause-first : goal.collect-requires-clause-first
collect-requires-clause-first c =
    let found = c.in_ok-minimize.ensures c.args.conflict c.in_ok-place.place c.in_ok-place.ensures in
    ap (in_clause c.args.propagator.now.trail.literals c.minimize.new.self.seen.items) (c.opposite-first.ensures ∙ ap opposite c.literal.ensures) ∙ found.uip.stands

pub collect-requires-clause-below : goal.collect-requires-clause-below
collect-requires-clause-below c x h =
    let lt = c.requires.stopped.sound.below (opposite x) h in
    let e = half_opposite x in
    let long = (c.in_ok-minimize.ensures c.args.conflict c.in_ok-place.place c.in_ok-place.ensures).long in
    omega arith

pub put_last_second-requires-clause-below : goal.put_last_second-requires-clause-below
put_last_second-requires-clause-below c x h =
    let t = c.args.propagator.now.trail in
    let seen = c.minimize.new.self.seen.items in
    let lt = c.requires.stopped.sound.below (opposite x) (and_left (has t.literals (opposite x)) (is_seen seen x) (sym (c.in_ok-collect.ensures.literals x) ∙ h)) in
    let e = half_opposite x in
    omega arith

pub returns-clause-blank : goal.returns-clause-blank
returns-clause-blank c = record { long = c.in_ok-collect.ensures.long ∙ (c.in_ok-minimize.ensures c.args.conflict c.in_ok-place.place c.in_ok-place.ensures).long; none = c.in_ok-collect.ensures.clear }

pub returns-clause-learnable : goal.returns-clause-learnable
returns-clause-learnable c last end =
    let t = c.args.propagator.now.trail in
    let f = c.args.propagator.now.store in
    let w = c.args.propagator.now.watches in
    let s = c.requires.stopped in
    let count : c.level-last.result ≡ length t.starts = c.level-last.ensures.count in
    let e : c.level-last.result - 1 ≡ last = omega arith in
    let seen = c.minimize.new.self.seen.items in
    let left = subst (λ (b : ℕ). IsLeft t.literals b c.in_ok-place.place seen) (c.start-boundary.ensures.start ∙ ap (λ (i : ℕ). get_or t.starts i 0) e) (c.in_ok-minimize.ensures c.args.conflict c.in_ok-place.place c.in_ok-place.ensures).uip in
    let k = c.in_ok-collect.ensures in
    learnable f t w last end c.level-last.ensures.rising s.sound s.listed c.in_ok-place.place seen c.len-limit.ensures.apart left c.collect.new.into.items k.literals c.put_last_second.new.literals.items k.some k.once
    (k.head ∙ c.opposite-first.ensures ∙ ap opposite c.literal.ensures) c.put_last_second.ensures

pub returns-clause-derived : goal.returns-clause-derived
returns-clause-derived c earlier store =
    let t = c.args.propagator.now.trail in
    let f = c.args.propagator.now.store in
    let m = c.args.conflict in
    let seen = c.minimize.new.self.seen.items in
    let resolutions = c.minimize.new.self.resolutions.items in
    let now = c.put_last_second.new.literals.items in
    let es : c.in_ok-step.step ≡ step_of m resolutions now =
    c.in_ok-step.ensures ∙ ap (λ (h : List Resolution). step_of m h c.deref-2.result.now) (c.deref.ensures.value ∙ ap (λ (z : _). z.items) c.in_ok-collect.ensures.resolutions) ∙ ap (λ (x : List ℕ). step_of m resolutions x) c.deref-2.ensures.value in
    subst (IsDerived earlier now) (sym es) (derived f earlier (in_clause t.literals seen) m resolutions now store c.requires.stopped.found.there (c.in_ok-minimize.ensures c.args.conflict c.in_ok-place.place c.in_ok-place.ensures).leads (λ x. c.put_last_second.ensures.same x ∙ c.in_ok-collect.ensures.literals x))

pub returns-clause-fresh : goal.returns-clause-fresh
returns-clause-fresh c earlier store =
    let t = c.args.propagator.now.trail in
    let f = c.args.propagator.now.store in
    let w = c.args.propagator.now.watches in
    let s = c.requires.stopped in
    let last = c.level-last.result - 1 in
    let some = c.requires.decided in
    let count : c.level-last.result ≡ length t.starts = c.level-last.ensures.count in
    let end : last + 1 ≡ length t.starts = omega arith in
    let seen = c.minimize.new.self.seen.items in
    let left = subst (λ (b : ℕ). IsLeft t.literals b c.in_ok-place.place seen) c.start-boundary.ensures.start (c.in_ok-minimize.ensures c.args.conflict c.in_ok-place.place c.in_ok-place.ensures).uip in
    fresh f t w last end c.level-last.ensures.rising s.sound s.listed c.in_ok-place.place seen c.len-limit.ensures.apart left c.put_last_second.new.literals.items
    (λ x. c.put_last_second.ensures.same x ∙ c.in_ok-collect.ensures.literals x) earlier c.in_ok-step.step store (returns-clause-derived c earlier store)
