use Rattle.std.proofs.Common.{◌≡◌, Bool, true, List, get_or, sym, ap, ◌∙◌}
use Rattle.sat_solver.specs.Resolving.{is_seen}
use Rattle.sat_solver.proofs.Passing.{behind_start}
use Rattle.sat_solver.proofs.analyze.Resolvent.pass.Goals as goal

pub resolve_at-requires-clause-given : goal.resolve_at-requires-clause-given
resolve_at-requires-clause-given c =
    let t = c.args.graph.now.trail.now in
    let seen = c.args.self.now.seen.items in
    let p = c.args.place in
    let w = c.literal-literal.result in
    let ew : w ≡ get_or t.literals p 0 = c.literal-literal.ensures in
    let on : is_seen seen (get_or t.literals p 0) ≡ true = sym (c.is_marked-seen.ensures ∙ ap (λ (x : List Bool). is_seen x w) c.deref.ensures.value ∙ ap (is_seen seen) ew) ∙ c.if-not-seen.false in
    c.requires.graph.reasons.given p c.requires.within (behind_start t.literals t.vars c.args.graph.now.boundary p seen c.args.self.now.pending c.requires.late c.requires.counted on c.if-self-eq1.false)
