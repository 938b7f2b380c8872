use Rattle.std.proofs.Common.{◌<◌, get_or, length, refl, ◌∙◌}
use Rattle.fs_interpreter.specs.States.{cell_at}
use Rattle.fs_interpreter.proofs.Frames.{grows_on, cells_stay, cells_keep}
use Rattle.fs_interpreter.proofs.AsideLaws.{copy_step, own_more, told_later, all_at}
use Rattle.fs_interpreter.proofs.branch.copy_all.Goals as goal

pub returns-in_err-cell-clause-grows : goal.returns-in_err-cell-clause-grows
returns-in_err-cell-clause-grows g c = grows_on _ _ _ c.loop-i.invariant.grows c.copy_cell.ensures.grows

pub returns-in_err-push-clause-grows : goal.returns-in_err-push-clause-grows
returns-in_err-push-clause-grows g c = grows_on _ _ _ c.loop-i.invariant.grows c.copy_cell.ensures.grows

pub loop-i-preserved : goal.loop-i-preserved
loop-i-preserved g c =
    let m0 = g.B.Bits.meanings c.args.bits.now in
    let m1 = g.B.Bits.meanings c.loop-i.bits in
    let m2 = g.B.Bits.meanings c.copy_cell.new.bits in
    let before = c.loop-i.invariant in
    let n = length c.args.cells.now.present in
    let below = all_at (λ i. i < n) c.args.places.now c.loop-i.i-index c.requires.places c.loop-i-test.true in
    record {
      grows = grows_on m0 m1 m2 before.grows c.copy_cell.ensures.grows;
      cells = cells_stay m1 m2 c.args.cells.now c.copy_cell.ensures.grows before.cells;
      own = own_more m1 m2 n c.loop-i.kept.items c.push.new.self.items _ _ c.copy_cell.ensures.grows before.own below c.in_ok-cell.ensures.gives c.in_ok-push.ensures.items;
      told = λ v. copy_step m1 m2 v c.loop-i.kept.items c.push.new.self.items c.args.places.now c.loop-i.i-index _ _ (cell_at m0 v c.args.cells.now) _
          (told_later m1 m2 n c.loop-i.kept.items c.copy_cell.ensures.grows before.own v) c.loop-i-test.true refl refl
          (c.in_ok-cell.ensures.gives.tells v ∙ (λ k. cells_keep m0 m1 c.args.cells.now before.grows c.requires.cells v k (get_or c.args.places.now c.loop-i.i-index 0)))
          c.in_ok-push.ensures.items (before.told v);
    }
