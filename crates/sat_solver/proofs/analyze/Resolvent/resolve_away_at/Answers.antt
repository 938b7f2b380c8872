use Rattle.std.proofs.Common.{◌≡◌, inl, inr, ℕ, ◌/◌, Bool, true, false, List, length, get_or, refl, sym, ap, ◌∙◌, subst, arith}
use Rattle.std.proofs.Math.ListN.{length-set}
use Rattle.unit_propagation.specs.Literals.{opposite, has}
use Rattle.unit_propagation.specs.Watching.{clause}
use Rattle.sat_solver.specs.Resolving.{is_seen, IsGiven}
use Rattle.sat_solver.proofs.Counts.{count_empty}
use Rattle.sat_solver.proofs.Arranges.{has_less}
use Rattle.sat_solver.proofs.Analyzing.{given_end}
use Rattle.sat_solver.proofs.Covering.{covers_less}
use Rattle.sat_solver.proofs.ResolvingAway.{joined_at, left_less, leads_on}
use Rattle.sat_solver.proofs.analyze.Resolvent.resolve_away_at.Goals as goal

pub clause-requires : goal.clause-requires
clause-requires c = (c.requires.graph.reasons.gives c.args.place c.in-Some.reason c.requires.within (c.in-Some.ensures.some c.in-Some.reason refl)).there

pub join-requires-clause-below : goal.join-requires-clause-below
join-requires-clause-below c x h =
    let g = c.requires.graph.reasons.gives c.args.place c.in-Some.reason c.requires.within (c.in-Some.ensures.some c.in-Some.reason refl) in
    c.requires.graph.reasons.within c.in-Some.reason x g.there (subst (λ (d : List ℕ). has d x ≡ true) c.clause.ensures h)

pub join-requires-clause-are_false : goal.join-requires-clause-are_false
join-requires-clause-are_false c x h =
    let t = c.args.graph.now.trail.now in
    let g = c.requires.graph.reasons.gives c.args.place c.in-Some.reason c.requires.within (c.in-Some.ensures.some c.in-Some.reason refl) in
    let count : c.len-end.result ≡ length t.literals = c.len-end.ensures.count in
    let within = c.requires.within in
    elim (g.others x (subst (λ (d : List ℕ). has d x ≡ true) c.clause.ensures h)) [
      | inl e ↦ inl (e ∙ sym c.literal-literal.ensures)
      | inr e ↦ inr (has_less t.literals c.args.place c.len-end.result (opposite x) (omega arith) e)
    ]

pub join-requires-clause-graph : goal.join-requires-clause-graph
join-requires-clause-graph c =
    let t = c.args.graph.now.trail.now in
    let g = c.requires.graph in
    record { apart = g.apart; short = g.short; reasons = subst (IsGiven c.args.graph.now.store.now t) (sym c.len-end.ensures.count) (given_end c.args.graph.now.store.now t c.args.graph.now.boundary g.reasons) }

pub join-requires-clause-counted : goal.join-requires-clause-counted
join-requires-clause-counted c =
    let t = c.args.graph.now.trail.now in
    let count : c.len-end.result ≡ length t.literals = c.len-end.ensures.count in
    record {
      long = ap length c.in_ok-cut.ensures.seen ∙ length-set c.args.self.now.seen.items (c.literal-literal.result / 2) false ∙ c.requires.idle.long;
      passed = λ p l m. absurd (omega arith);
      counted = c.in_ok-cut.ensures.pending ∙ c.requires.idle.none_open ∙ sym (count_empty c.cut.new.self.seen.items t.literals c.len-end.result c.len-end.result (omega arith));
    }

pub returns-clause-idle : goal.returns-clause-idle
returns-clause-idle c = record {
  none_open = c.in_ok-join.ensures.counted.counted ∙ count_empty c.join.new.self.seen.items c.args.graph.now.trail.now.literals c.len-end.result c.len-end.result (omega arith);
  long = c.in_ok-join.ensures.counted.long;
}

pub returns-clause-shrinks : goal.returns-clause-shrinks
returns-clause-shrinks c =
    let t = c.args.graph.now.trail.now in
    let f = c.args.graph.now.store.now in
    let seen = c.args.self.now.seen.items in
    let g = c.requires.graph.reasons.gives c.args.place c.in-Some.reason c.requires.within (c.in-Some.ensures.some c.in-Some.reason refl) in
    let v = get_or t.literals c.args.place 0 in
    let d = clause f c.in-Some.reason in
    let cut = c.cut.new.self.seen.items in
    let new = c.join.new.self.seen.items in
    let away = c.in_ok-cut.ensures in
    let joined = c.in_ok-join.ensures in
    let on = sym (c.is_marked-seen.ensures ∙ ap (λ (x : List Bool). is_seen x c.literal-literal.result) c.deref.ensures.value ∙ ap (is_seen seen) c.literal-literal.ensures) ∙ c.if-not-seen.false in
    record {
      resolves = record {
        covered = λ h. joined.covered (covers_less t.literals seen _ c.args.self.now.marked.items _ (c.literal-literal.result / 2) away.seen (ap (λ (z : _). z.items) away.marked) h);
        leads = λ start h. leads_on f t c.args.graph.now.boundary c.args.place c.literal-literal.result c.in-Some.reason seen cut new c.clause.result.now start c.args.self.now.resolutions.items c.join.new.self.resolutions.items
            c.requires.graph.apart c.requires.within c.requires.graph.reasons c.literal-literal.ensures (c.in-Some.ensures.some c.in-Some.reason refl) on c.requires.idle.long away.seen c.clause.ensures joined.seen
            (ap (λ (z : _). z.items) joined.resolutions ∙ away.resolutions) h;
      };
      uip = λ p left. left_less t.literals c.args.graph.now.boundary p c.args.place seen new d c.requires.graph.apart c.requires.early c.requires.within left g.others
          (joined_at t.literals seen cut new c.clause.result.now d c.literal-literal.result v c.literal-literal.ensures away.seen c.clause.ensures joined.seen);
    }
