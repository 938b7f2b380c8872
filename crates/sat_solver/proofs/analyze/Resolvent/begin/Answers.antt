use Rattle.std.proofs.Common.{◌≡◌, ℕ, true, not, ◌||◌, ◌&&◌, List, [], get_or, sym, ap, ◌∙◌, subst}
use Rattle.std.specs.Prelude.{◌==◌}
use Rattle.unit_propagation.specs.Literals.{opposite, has}
use Rattle.unit_propagation.specs.Watching.{clause}
use Rattle.sat_solver.specs.Resolving.{is_seen, IsMarked, in_clause, Reaches}
use Rattle.sat_solver.specs.declared.analyze.Resolution.{Resolution}
use Rattle.sat_solver.proofs.Counts.{count_off}
use Rattle.sat_solver.proofs.Passing.{begins, begins_some}
use Rattle.sat_solver.proofs.Covering.{covers_none}
use Rattle.sat_solver.proofs.analyze.Resolvent.begin.Goals as goal

pub join-requires-clause-counted : goal.join-requires-clause-counted
join-requires-clause-counted c =
    let t = c.args.graph.now.trail.now in
    let seen = c.args.self.now.seen.items in
    record {
      long = c.requires.clear.long;
      passed = λ p l q. c.requires.clear.none (get_or t.literals p 0);
      counted = c.requires.clear.zero_open ∙ sym (count_off seen t.literals c.args.graph.now.boundary c.len-limit.result c.requires.clear.none);
    }

pub returns-clause-some : goal.returns-clause-some
returns-clause-some c =
    let t = c.args.graph.now.trail.now in
    let f = c.args.graph.now.store.now in
    let m = c.args.conflict in
    let b = c.args.graph.now.boundary in
    let seen = c.args.self.now.seen.items in
    let new = c.join.new.self.seen.items in
    let joined : (y : ℕ) → has t.literals (opposite y) ≡ true → is_seen new y ≡ (is_seen seen y || (has (clause f m) y && not (y == get_or t.literals b 0))) =
    λ y q. c.in_ok-join.ensures.seen y q
    ∙ ap (λ (d : List ℕ). is_seen seen y || (has d y && not (y == c.literal-skip.result))) c.clause-lits.ensures
    ∙ ap (λ (w : ℕ). is_seen seen y || (has (clause f m) y && not (y == w))) c.literal-skip.ensures in
    let marked = subst (λ (n : ℕ). IsMarked t.literals t.vars b n new c.join.new.self.pending) c.len-limit.ensures.count c.in_ok-join.ensures.counted in
    begins_some f t.literals t.vars b m seen new c.join.new.self.pending c.requires.graph.apart c.requires.conflict.is_false c.requires.clear.none c.requires.conflict.decided joined marked c.requires.conflict.rested

pub returns-clause-leads : goal.returns-clause-leads
returns-clause-leads c =
    let t = c.args.graph.now.trail.now in
    let f = c.args.graph.now.store.now in
    let m = c.args.conflict in
    let b = c.args.graph.now.boundary in
    let seen = c.args.self.now.seen.items in
    let new = c.join.new.self.seen.items in
    let joined : (y : ℕ) → has t.literals (opposite y) ≡ true → is_seen new y ≡ (is_seen seen y || (has (clause f m) y && not (y == get_or t.literals b 0))) =
    λ y q. c.in_ok-join.ensures.seen y q
    ∙ ap (λ (d : List ℕ). is_seen seen y || (has d y && not (y == c.literal-skip.result))) c.clause-lits.ensures
    ∙ ap (λ (w : ℕ). is_seen seen y || (has (clause f m) y && not (y == w))) c.literal-skip.ensures in
    let resolutions : c.join.new.self.resolutions.items ≡ [] = ap (λ (z : _). z.items) c.in_ok-join.ensures.resolutions ∙ c.requires.clear.no_resolution in
    subst (λ (hs : List Resolution). Reaches f (has (clause f m)) hs (in_clause t.literals new)) (sym resolutions)
    (begins f t.literals t.vars b m seen new c.join.new.self.pending c.requires.graph.apart c.requires.conflict.is_false c.requires.clear.none c.requires.conflict.decided joined)

pub returns-clause-covered : goal.returns-clause-covered
returns-clause-covered c = c.in_ok-join.ensures.covered (covers_none c.args.graph.now.trail.now.literals c.args.self.now.seen.items c.args.self.now.marked.items c.requires.clear.none c.requires.clear.no_mark)
