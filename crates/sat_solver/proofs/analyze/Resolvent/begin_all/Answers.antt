use Rattle.std.proofs.Common.{◌≡◌, ℕ, true, not, ◌||◌, ◌&&◌, List, [], length, get_or, sym, ap, ◌∙◌, subst, arith}
use Rattle.std.specs.Prelude.{◌==◌}
use Rattle.unit_propagation.specs.Literals.{opposite, has}
use Rattle.unit_propagation.specs.Watching.{clause}
use Rattle.sat_solver.specs.Resolving.{is_seen, in_clause, Reaches}
use Rattle.sat_solver.specs.declared.analyze.Resolution.{Resolution}
use Rattle.unit_propagation.proofs.Marks.{has_at, standing}
use Rattle.sat_solver.proofs.Counts.{count_off}
use Rattle.sat_solver.proofs.Passing.{begins}
use Rattle.sat_solver.proofs.analyze.Resolvent.begin_all.Goals as goal

pub returns-then-lits-eq0-clause-counted : goal.returns-then-lits-eq0-clause-counted
returns-then-lits-eq0-clause-counted c =
    let t = c.args.graph.now.trail.now in
    let seen = c.args.self.now.seen.items in
    record {
      long = c.requires.clear.long;
      passed = λ p l q. c.requires.clear.none (get_or t.literals p 0);
      counted = c.requires.clear.zero_open ∙ sym (count_off seen t.literals c.args.graph.now.boundary (length t.literals) c.requires.clear.none);
    }

pub join-requires-clause-counted : goal.join-requires-clause-counted
join-requires-clause-counted c =
    let t = c.args.graph.now.trail.now in
    let seen = c.args.self.now.seen.items in
    record {
      long = c.requires.clear.long;
      passed = λ p l q. c.requires.clear.none (get_or t.literals p 0);
      counted = c.requires.clear.zero_open ∙ sym (count_off seen t.literals c.args.graph.now.boundary c.len-limit.result c.requires.clear.none);
    }

pub returns-clause-leads : goal.returns-clause-leads
returns-clause-leads c =
    let t = c.args.graph.now.trail.now in
    let f = c.args.graph.now.store.now in
    let m = c.args.conflict in
    let seen = c.args.self.now.seen.items in
    let new = c.join.new.self.seen.items in
    let first = get_or (clause f m) 0 0 in
    let es : c.opposite-skip.result ≡ opposite first = c.opposite-skip.ensures ∙ ap opposite (c.literal_at.ensures ∙ ap (λ (l : List ℕ). get_or l 0 0) c.clause-lits.ensures) in
    let long : length c.clause-lits.result.now ≡ length (clause f m) = ap (λ (l : List ℕ). length l) c.clause-lits.ensures in
    let held = c.requires.is_false.all first (has_at (clause f m) 0 (let n = c.if-lits-eq0.false in omega arith)) in
    let q = standing t.literals (opposite first) held in
    let joined : (y : ℕ) → has t.literals (opposite y) ≡ true → is_seen new y ≡ (is_seen seen y || (has (clause f m) y && not (y == get_or t.literals q.place 0))) =
    λ y h. c.in_ok-join.ensures.seen y h
    ∙ ap (λ (d : List ℕ). is_seen seen y || (has d y && not (y == c.opposite-skip.result))) c.clause-lits.ensures
    ∙ ap (λ (w : ℕ). is_seen seen y || (has (clause f m) y && not (y == w))) (es ∙ sym q.is) in
    let resolutions : c.join.new.self.resolutions.items ≡ [] = ap (λ (z : _). z.items) c.in_ok-join.ensures.resolutions ∙ c.requires.clear.no_resolution in
    subst (λ (hs : List Resolution). Reaches f (has (clause f m)) hs (in_clause t.literals new)) (sym resolutions)
    (begins f t.literals t.vars q.place m seen new c.join.new.self.pending c.requires.graph.apart c.requires.is_false c.requires.clear.none q.within joined)
