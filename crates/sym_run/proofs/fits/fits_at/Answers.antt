use Rattle.std.proofs.Common.{[], nat_lt, sym, ap, ◌∙◌}
use Rattle.fs_semantics.specs.FileTree.{parent}
use Rattle.fs_interpreter.specs.Places.{place_in}
use Rattle.fs_interpreter.specs.States.{number as number_at}
use Rattle.fs_interpreter.proofs.Frames.{cells_stay, cells_keep, grows_on, if_means}
use Rattle.sym_run.specs.Fitting.{fits}
use Rattle.sym_run.specs.Wires.{circuit_meanings}
use Rattle.sym_run.proofs.CircuitLaws.{circuit_grows}
use Rattle.sym_run.proofs.BitLaws.{item_is}
use Rattle.sym_run.proofs.fits.fits_at.Goals as goal

pub fits-requires-clause-cells : goal.fits-requires-clause-cells
fits-requires-clause-cells c =
    cells_stay (circuit_meanings c.args.sym.now) (circuit_meanings c.is_below.new.sym) c.args.cells.now (circuit_grows c.args.sym.now c.is_below.new.sym c.is_below.ensures.grows) c.requires.cells

pub returns-clause-grows : goal.returns-clause-grows
returns-clause-grows c =
    grows_on (circuit_meanings c.args.sym.now) (circuit_meanings c.is_below.new.sym) (circuit_meanings c.fits.new.bits) (circuit_grows c.args.sym.now c.is_below.new.sym c.is_below.ensures.grows) c.fits.ensures.grows

pub returns-clause-gives : goal.returns-clause-gives
returns-clause-gives c =
    let m0 = circuit_meanings c.args.sym.now in
    let m1 = circuit_meanings c.is_below.new.sym in
    let m2 = circuit_meanings c.fits.new.bits in
    let table = c.args.table.now in
    let cells = c.args.cells.now in
    let i = c.args.i in
    if_means m2 _ _ c.fits.result c.fits.ensures.gives (λ v.
    let keep = cells_keep m0 m1 cells (circuit_grows c.args.sym.now c.is_below.new.sym c.is_below.ensures.grows) c.requires.cells v in
    let place = c.place-above.ensures ∙ ap (place_in table.paths) (c.in_ok-parent.ensures ∙ ap parent (sym (item_is table.paths i c.path.result.now [] c.path.ensures))) in
    let code = sym (ap (number_at (m0.code v)) c.at.ensures) in
    let known = c.in_ok-known.ensures.value v ∙ (λ t. nat_lt (code t) (c.content_count.ensures t)) in
    (λ t. fits (place t) (known t) (keep t i) (keep t)))
