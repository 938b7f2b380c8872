use Rattle.std.proofs.Common.{ap, ◌∙◌}
use Rattle.std.specs.Prelude.{not, ◌||◌}
use Rattle.fs_interpreter.proofs.Frames.{grows_on}
use Rattle.fs_interpreter.proofs.Put.{clear_as}
use Rattle.fs_interpreter.proofs.writes.clear.Goals as goal

pub returns-clause-changes : goal.returns-clause-changes
returns-clause-changes g c =
    let m0 = g.B.Bits.meanings c.args.bits.now in
    let m1 = g.B.Bits.meanings c.constant.new.self in
    let m2 = g.B.Bits.meanings c.not.new.self in
    let m3 = g.B.Bits.meanings c.or.new.bits in
    let early = grows_on m0 m1 m2 c.constant.ensures.grows c.not.ensures.grows in
    let late = grows_on m1 m2 m3 c.not.ensures.grows c.or.ensures.grows in
    clear_as m0 m3 c.args.cells.now c.args.i c.in_ok-absent.absent c.in_ok-error.error c.set.new.self (λ v. m0.bit v c.args.ok.now)
    (grows_on m0 m2 m3 early c.or.ensures.grows) c.requires.cells c.requires.place
    (late.owns c.in_ok-absent.absent c.in_ok-absent.ensures.gives.owned)
    (λ v. late.bit c.in_ok-absent.absent c.in_ok-absent.ensures.gives.owned v ∙ c.in_ok-absent.ensures.gives.means v)
    c.in_ok-error.ensures.gives.owned
    (λ v. let one = early.bit c.args.cells.now.error c.requires.cells.error v in
    let two = c.in_ok-bad.ensures.gives.means v ∙ ap not (c.constant.ensures.grows.bit c.args.ok.now c.requires.ok v) in
    c.in_ok-error.ensures.gives.means v ∙ (λ i. one i || two i))
    c.set.ensures
