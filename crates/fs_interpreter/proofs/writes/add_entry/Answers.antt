use Rattle.fs_interpreter.specs.States.{state_of, cell_at}
use Rattle.fs_interpreter.specs.Places.{place_in}
use Rattle.fs_interpreter.specs.Steps.{put, free_at}
use Rattle.fs_interpreter.proofs.Frames.{if_becomes}
use Rattle.fs_interpreter.proofs.writes.add_entry.Goals as goal

pub returns-clause-changes : goal.returns-clause-changes
returns-clause-changes g c =
    let m0 = g.B.Bits.meanings c.args.bits.now in
    let m1 = g.B.Bits.meanings c.new_cell.new.bits in
    if_becomes m0 m1 _ c.args.cells.now _ _ _ _ c.new_cell.ensures.grows c.requires.cells c.make.ensures.changes
    (λ v k. put (place_in c.args.table.now.paths c.args.p.now) (free_at c.args.table.now c.args.p.now (cell_at m0 v c.args.cells.now)) (c.in_ok-cell.ensures.gives.tells v k) (state_of m0 v c.args.cells.now))
