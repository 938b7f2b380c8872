use Rattle.std.proofs.Common.{if◌then◌else◌}
use Rattle.fs_interpreter.specs.States.{cell_at}
use Rattle.fs_interpreter.specs.Changed.{one_told}
use Rattle.fs_interpreter.proofs.AsideLaws.{put_only}
use Rattle.fs_interpreter.proofs.branch.choose_one.Goals as goal

pub returns-clause-changes : goal.returns-clause-changes
returns-clause-changes g c =
    let m0 = g.B.Bits.meanings c.args.bits.now in
    let m1 = g.B.Bits.meanings c.chosen.new.bits in
    let done = put_only m0 m1 c.args.cells.now c.put.new.self c.args.kept.now.place c.in_ok-cell.cell
    (λ v. if m0.bit v c.args.c.now then one_told m0 v c.args.kept.now.cell else cell_at m0 v c.args.cells.now c.args.kept.now.place)
    c.chosen.ensures.grows c.requires.cells c.requires.place c.in_ok-cell.ensures.gives c.put.ensures in
    record { cells = done.cells; places = done.places; told = done.told }
