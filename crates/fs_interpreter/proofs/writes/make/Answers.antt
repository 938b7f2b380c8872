use Rattle.fs_interpreter.specs.States.{state_of}
use Rattle.fs_interpreter.specs.Steps.{put}
use Rattle.fs_interpreter.proofs.Frames.{if_becomes}
use Rattle.fs_interpreter.proofs.Put.{one_keeps}
use Rattle.fs_interpreter.proofs.writes.make.Goals as goal

pub returns-clause-changes : goal.returns-clause-changes
returns-clause-changes g c =
    let m0 = g.B.Bits.meanings c.args.bits.now in
    let m1 = g.B.Bits.meanings c.free_at.new.bits in
    if_becomes m0 m1 _ c.args.cells.now _ _ _ _ c.free_at.ensures.grows c.requires.cells c.put.ensures.changes
    (λ v k. put (c.position-place.ensures.place k) (c.in_ok-free.ensures.gives.means v k) (one_keeps m0 m1 c.args.cell c.free_at.ensures.grows c.requires.cell v k) (state_of m0 v c.args.cells.now))
