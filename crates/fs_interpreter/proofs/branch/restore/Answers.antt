use Rattle.std.proofs.Common.{◌<◌, length, sym, ap, subst, ◌∙◌}
use Rattle.fs_interpreter.specs.Meanings.{grows_same}
use Rattle.fs_interpreter.specs.States.{State, cell_at}
use Rattle.fs_interpreter.specs.Changed.{one_told}
use Rattle.fs_interpreter.proofs.AsideLaws.{put_only, restore_step, own_parts, own_front, own_last}
use Rattle.fs_interpreter.proofs.branch.restore.Goals as goal

pub loop-one-preserved : goal.loop-one-preserved
loop-one-preserved g c =
    let m = g.B.Bits.meanings c.args.bits.now in
    let before = c.loop-one.invariant in
    let n = length c.args.cells.now.present in
    let parts = own_parts m n c.loop-one.kept.items c.pop.new.self.items c.in-Some.one before.own c.in-Some.ensures.items in
    let last = own_last m n c.pop.new.self.items c.in-Some.one parts in
    let change = put_only m m c.loop-one.cells c.put.new.self c.in-Some.one.place c.in-Some.one.cell (λ v. one_told m v c.in-Some.one.cell)
    (grows_same m) before.cells (subst (λ k. c.in-Some.one.place < k) (sym before.places) last.0) last.1 c.put.ensures in
    record {
      cells = change.cells;
      places = change.places ∙ before.places;
      own = own_front m n c.pop.new.self.items c.in-Some.one parts;
      told = λ v. restore_step m v c.loop-one.kept.items c.pop.new.self.items c.in-Some.one (cell_at m v c.loop-one.cells) (cell_at m v c.put.new.self) _
          c.in-Some.ensures.items (ap (λ (s : State). s.cell) (change.told v)) (before.told v);
      error = before.error;
    }
