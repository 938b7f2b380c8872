use Rattle.std.proofs.Common.{ap, ◌∙◌, length}
use Rattle.fs_interpreter.specs.States.{cell_at}
use Rattle.fs_interpreter.specs.Asides.{put_where, kept_told}
use Rattle.fs_interpreter.proofs.Frames.{becomes_from}
use Rattle.fs_interpreter.proofs.AsideLaws.{with_error, told_later}
use Rattle.fs_interpreter.proofs.branch.choose.Goals as goal

pub returns-clause-changes : goal.returns-clause-changes
returns-clause-changes g c =
    let m0 = g.B.Bits.meanings c.args.bits.now in
    let m1 = g.B.Bits.meanings c.mux.new.self in
    let m2 = g.B.Bits.meanings c.choose_all.new.bits in
    let own = c.in_ok-error.ensures.gives.owned in
    let n = length c.args.cells.now.present in
    becomes_from m0 m1 m2 c.args.cells.now _ _ _ c.mux.ensures.grows c.requires.cells
    (with_error m1 m2 c.args.cells.now c.choose_all.new.cells c.in_ok-error.error _ c.in_ok-choose_all.ensures.changes (c.choose_all.ensures.grows.owns c.in_ok-error.error own))
    (λ v. let bit = c.mux.ensures.grows.bit c.args.c.now c.requires.c v in
    let told = ap (kept_told m1 v) c.deref.ensures.value ∙ told_later m0 m1 n c.args.aside.now.cells.items c.mux.ensures.grows c.requires.aside.cells v in
    let error = c.choose_all.ensures.grows.bit c.in_ok-error.error own v ∙ c.in_ok-error.ensures.gives.means v in
    (λ k. record { cell = put_where (bit k) (told k) (cell_at m0 v c.args.cells.now); error = error k }))
