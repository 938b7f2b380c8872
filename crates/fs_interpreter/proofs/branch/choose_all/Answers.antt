use Rattle.std.proofs.Common.{ap, ◌∙◌}
use Rattle.fs_interpreter.specs.States.{State, cell_at}
use Rattle.fs_interpreter.proofs.Frames.{grows_on}
use Rattle.fs_interpreter.proofs.Put.{one_keeps}
use Rattle.fs_interpreter.proofs.AsideLaws.{choose_step, own_at}
use Rattle.fs_interpreter.proofs.branch.choose_all.Goals as goal

pub loop-one-preserved : goal.loop-one-preserved
loop-one-preserved g c =
    let m0 = g.B.Bits.meanings c.args.bits.now in
    let m1 = g.B.Bits.meanings c.loop-one.bits in
    let m2 = g.B.Bits.meanings c.choose_one.new.bits in
    let before = c.loop-one.invariant in
    let change = c.in_ok-choose_one.ensures.changes in
    let own = own_at m0 _ c.args.kept.now c.loop-one.one-index c.one-item.result c.requires.kept c.loop-one-test.true c.one-item.is in
    record {
      grows = grows_on m0 m1 m2 before.grows c.choose_one.ensures.grows;
      cells = change.cells;
      places = change.places ∙ before.places;
      told = λ v. choose_step m0 m1 v c.args.c.now c.args.kept.now c.loop-one.one-index c.one-item.result (cell_at m1 v c.loop-one.cells) (cell_at m2 v c.choose_one.new.cells) _
          (before.grows.bit c.args.c.now c.requires.c v) (one_keeps m0 m1 c.one-item.result.cell before.grows own.1 v) c.loop-one-test.true c.one-item.is
          (ap (λ (s : State). s.cell) (change.told v)) (before.told v);
      error = λ v. ap (λ (s : State). s.error) (change.told v) ∙ before.error v;
    }
