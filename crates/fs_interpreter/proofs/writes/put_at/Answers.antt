use Rattle.std.proofs.Common.{◌∙◌}
use Rattle.std.specs.Prelude.{◌||◌}
use Rattle.fs_interpreter.proofs.Frames.{grows_on}
use Rattle.fs_interpreter.proofs.Put.{put_becomes}
use Rattle.fs_interpreter.proofs.writes.put_at.Goals as goal

pub returns-clause-changes : goal.returns-clause-changes
returns-clause-changes g c =
    let m = g.B.Bits.meanings in
    let grows = grows_on (m c.args.bits.now) (m c.not.new.self) (m c.or.new.bits) c.not.ensures.grows c.or.ensures.grows in
    put_becomes (m c.args.bits.now) (m c.or.new.bits) c.args.cells.now c.put.new.self c.args.i c.args.cell c.in_ok-error.error (λ v. (m c.args.bits.now).bit v c.args.ok.now)
    grows c.requires.cells c.requires.place c.requires.cell c.put.ensures c.in_ok-error.ensures.gives.owned
    (λ v. let one = c.not.ensures.grows.bit c.args.cells.now.error c.requires.cells.error v in let two = c.in_ok-bad.ensures.gives.means v in
    c.in_ok-error.ensures.gives.means v ∙ (λ i. one i || two i))
