use Rattle.std.proofs.Common.{◌≡◌, ◌+◌, ◌-◌, length, arith, sym, subst}
use Rattle.unit_propagation.specs.Trails.{Way}
use Rattle.unit_propagation.specs.Watching.{IsReady}
use Rattle.sat_solver.specs.Learned.{IsAddable}
use Rattle.sat_solver.proofs.Backjumping.{false_below, ready_back, addable_back}
use Rattle.sat_solver.proofs.learn.assert_learned.Goals as goal

pub level_for-level-requires-clause-below : goal.level_for-level-requires-clause-below
level_for-level-requires-clause-below c x h =
    let t = c.args.trail.now in
    let last = length t.starts - 1 in
    let some = c.requires.decided in
    let end : last + 1 ≡ length t.starts = omega arith in
    false_below c.args.store.now t c.args.watches.now x c.requires.stopped.sound ((c.requires.learnable last end).are_false x h)

pub learn_unit-requires-clause-ready : goal.learn_unit-requires-clause-ready
learn_unit-requires-clause-ready c =
    let t = c.args.trail.now in
    let e = c.level_for-level.ensures in
    subst (λ (x : Way). IsReady c.args.store.now x c.args.watches.now) (sym c.back.ensures) (ready_back c.args.store.now t c.args.watches.now c.level_for-level.result c.args._conflict e.within c.level-levels.ensures.rising c.requires.stopped)

pub learn_unit-requires-clause-addable : goal.learn_unit-requires-clause-addable
learn_unit-requires-clause-addable c =
    let t = c.args.trail.now in
    let e = c.level_for-level.ensures in
    let count = c.count.ensures.count in
    let n = c.if-count.false in
    subst (λ (x : Way). IsAddable c.args.store.now x c.args.literals.now) (sym c.back.ensures)
    (addable_back c.args.store.now t c.args.watches.now c.level_for-level.result c.args._conflict e.within c.level-levels.ensures.rising c.requires.stopped c.args.literals.now (omega arith) c.requires.learnable e.short e.there e.before)

pub learn_long-requires-clause-ready : goal.learn_long-requires-clause-ready
learn_long-requires-clause-ready c =
    let t = c.args.trail.now in
    let e = c.level_for-level.ensures in
    subst (λ (x : Way). IsReady c.args.store.now x c.args.watches.now) (sym c.back.ensures) (ready_back c.args.store.now t c.args.watches.now c.level_for-level.result c.args._conflict e.within c.level-levels.ensures.rising c.requires.stopped)

pub learn_long-requires-clause-addable : goal.learn_long-requires-clause-addable
learn_long-requires-clause-addable c =
    let t = c.args.trail.now in
    let e = c.level_for-level.ensures in
    let count = c.count.ensures.count in
    let n = c.if-count.false in
    subst (λ (x : Way). IsAddable c.args.store.now x c.args.literals.now) (sym c.back.ensures)
    (addable_back c.args.store.now t c.args.watches.now c.level_for-level.result c.args._conflict e.within c.level-levels.ensures.rising c.requires.stopped c.args.literals.now (omega arith) c.requires.learnable e.short e.there e.before)
