use Rattle.std.proofs.Common.{ℕ, ap, ◌∙◌}
use Rattle.fs_interpreter.specs.States.{Cell, state_of}
use Rattle.fs_interpreter.specs.Steps.{put, file_cell}
use Rattle.fs_interpreter.proofs.Frames.{grows_on, if_becomes, cells_keep}
use Rattle.fs_interpreter.proofs.writes.copy_from.Goals as goal

pub returns-clause-changes : goal.returns-clause-changes
returns-clause-changes g c =
    let m0 = g.B.Bits.meanings c.args.bits.now in
    let m1 = g.B.Bits.meanings c.copyable.new.bits in
    let m2 = g.B.Bits.meanings c.same_file.new.bits in
    let grows = grows_on m0 m1 m2 c.copyable.ensures.grows c.same_file.ensures.grows in
    if_becomes m0 m2 _ c.args.cells.now _ _ _ _ grows c.requires.cells c.put.ensures.changes
    (λ v. let ok = c.same_file.ensures.grows.bit c.in_ok-ok.ok c.in_ok-ok.ensures.gives.owned v ∙ c.in_ok-ok.ensures.gives.means v in
    let cell = c.in_ok-cell.ensures.gives.tells v ∙ ap (λ (f : ℕ → Cell). file_cell (f c.args.i).content) (cells_keep m0 m1 c.args.cells.now c.copyable.ensures.grows c.requires.cells v) in
    (λ k. put (c.position-place.ensures.place k) (ok k) (cell k) (state_of m0 v c.args.cells.now)))
