use Rattle.std.proofs.Common.{sym, ◌∙◌}
use Rattle.std.specs.Prelude.{◌&&◌}
use Rattle.fs_interpreter.specs.States.{cell_at}
use Rattle.fs_interpreter.specs.Steps.{none_at, dir_at}
use Rattle.fs_interpreter.proofs.Frames.{if_means}
use Rattle.fs_interpreter.proofs.SearchLaws.{place_there}
use Rattle.fs_interpreter.proofs.writes.free_at.Goals as goal

pub returns-in-Some-clause-gives : goal.returns-in-Some-clause-gives
returns-in-Some-clause-gives g c =
    let found = sym c.position.ensures.place ∙ c.in-Some.is in
    let above = c.parent.ensures.place c.args.p.now (place_there c.args.table.now.paths c.args.p.now c.in-Some.i found) in
    if_means _ _ _ _ c.free_place.ensures.gives (λ v k. none_at (sym found k) (cell_at (g.B.Bits.meanings c.args.bits.now) v c.args.cells.now) && dir_at (above k) (cell_at (g.B.Bits.meanings c.args.bits.now) v c.args.cells.now))
