use Rattle.std.proofs.Common.{◌≡◌, ◌⊎◌, ℕ, ◌/◌, Bool, true, false, List, take, refl, sym, ap, ◌∙◌, subst, arith}
use Rattle.std.proofs.Math.ListN.{set}
use Rattle.unit_propagation.specs.Literals.{opposite, has}
use Rattle.sat_solver.specs.Resolving.{IsMarked}
use Rattle.sat_solver.proofs.Passing.{unmarked}
use Rattle.sat_solver.proofs.Covering.{covers_less}
use Rattle.sat_solver.proofs.ResolvingAway.{leads_on}
use Rattle.sat_solver.proofs.analyze.Resolvent.resolve_at.Goals as goal

pub clause-requires : goal.clause-requires
clause-requires c =
    (c.requires.graph.reasons.gives c.args.place c.in-Some.reason c.requires.within (c.in-Some.ensures.some c.in-Some.reason refl)).there

pub join-requires-clause-are_false : goal.join-requires-clause-are_false
join-requires-clause-are_false c x h =
    let t = c.args.graph.now.trail.now in
    let g = c.requires.graph.reasons.gives c.args.place c.in-Some.reason c.requires.within (c.in-Some.ensures.some c.in-Some.reason refl) in
    subst (λ (y : ℕ). (x ≡ y) ⊎ (has (take c.args.place t.literals) (opposite x) ≡ true)) (sym c.literal-literal.ensures) (g.others x (subst (λ (d : List ℕ). has d x ≡ true) c.clause.ensures h))

pub join-requires-clause-counted : goal.join-requires-clause-counted
join-requires-clause-counted c =
    let t = c.args.graph.now.trail.now in
    let seen = c.args.self.now.seen.items in
    let p = c.args.place in
    let next = c.take_out.new.self.pending in
    let long = c.requires.counted.long in
    let small = c.requires.graph.reasons.literals p c.requires.within in
    let m = unmarked t.literals t.vars c.args.graph.now.boundary p seen c.args.self.now.pending c.requires.late c.requires.counted c.requires.seen c.requires.graph.apart c.requires.within next c.in_ok-take_out.ensures.pending (omega arith) in
    subst (λ (s : List Bool). IsMarked t.literals t.vars c.args.graph.now.boundary p s next) (sym (c.in_ok-take_out.ensures.seen ∙ ap (λ (y : ℕ). set seen (y / 2) false) c.literal-literal.ensures)) m

pub returns-clause-resolves : goal.returns-clause-resolves
returns-clause-resolves c =
    let t = c.args.graph.now.trail.now in
    let seen = c.args.self.now.seen.items in
    let taken = c.in_ok-take_out.ensures in
    let joined = c.in_ok-join.ensures in
    record {
      covered = λ h. joined.covered (covers_less t.literals seen _ c.args.self.now.marked.items _ (c.literal-literal.result / 2) taken.seen (ap (λ (z : _). z.items) taken.marked) h);
      leads = λ start h. leads_on c.args.graph.now.store.now t c.args.graph.now.boundary c.args.place c.literal-literal.result c.in-Some.reason seen c.take_out.new.self.seen.items c.join.new.self.seen.items c.clause.result.now start
          c.args.self.now.resolutions.items c.join.new.self.resolutions.items c.requires.graph.apart c.requires.within c.requires.graph.reasons c.literal-literal.ensures (c.in-Some.ensures.some c.in-Some.reason refl) c.requires.seen c.requires.counted.long
          taken.seen c.clause.ensures joined.seen (ap (λ (z : _). z.items) joined.resolutions ∙ taken.resolutions) h;
    }
