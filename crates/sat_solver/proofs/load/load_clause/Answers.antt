use Rattle.std.proofs.Common.{ℕ, List, sym, subst, arith}
use Rattle.unit_propagation.specs.Watching.{IsSound}
use Rattle.sat_solver.proofs.Loading.{sound_grown}
use Rattle.sat_solver.proofs.load.load_clause.Goals as goal

pub returns-then-literals-eq0-clause-sound : goal.returns-then-literals-eq0-clause-sound
returns-then-literals-eq0-clause-sound c e =
    let r = c.requires in
    let count = c.count.ensures.count in
    let n = c.if-count.false in
    subst (λ (x : List (List ℕ)). IsSound x c.args.trail.now c.args.watches.now) (sym c.in_ok-push.ensures)
    (sound_grown c.args.store.now c.args.trail.now c.args.watches.now c.args.literals.now (omega arith) r.within r.once r.level r.ready.sound)
