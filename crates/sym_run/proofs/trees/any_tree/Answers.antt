use Rattle.std.proofs.Common.{◌-◌, ◌<◌, length, sym, ap, subst, ◌∙◌, arith}
use Rattle.bool_circuit.specs.Gates.{input_count}
use Rattle.fs_interpreter.specs.States.{State, state_of}
use Rattle.fs_interpreter.specs.Standing.{Stands}
use Rattle.fs_interpreter.proofs.Frames.{cells_stay, cells_keep, state_keeps, grows_on}
use Rattle.sym_run.specs.Fitting.{all_fit}
use Rattle.sym_run.specs.Inputs.{AreInputCells}
use Rattle.sym_run.specs.Numbers.{twice}
use Rattle.sym_run.specs.Wires.{circuit_meanings}
use Rattle.sym_run.proofs.CircuitLaws.{circuit_grows}
use Rattle.sym_run.proofs.CellLaws.{input_cells_own}
use Rattle.sym_run.proofs.AnyLaws.{tree_exactly, tree_every}
use Rattle.sym_run.proofs.trees.any_tree.Goals as goal

pub returns-in_err-cells-clause-grows : goal.returns-in_err-cells-clause-grows
returns-in_err-cells-clause-grows c = circuit_grows c.args.sym.now c.input_cells.new.sym c.input_cells.ensures.grows

pub all_fit-requires-clause-cells : goal.all_fit-requires-clause-cells
all_fit-requires-clause-cells c = input_cells_own c.input_cells.new.sym (input_count c.args.sym.now) _ _ c.in_ok-cells.cells c.in_ok-cells.ensures.cells

pub returns-in_err-well-clause-grows : goal.returns-in_err-well-clause-grows
returns-in_err-well-clause-grows c =
    grows_on (circuit_meanings c.args.sym.now) (circuit_meanings c.input_cells.new.sym) (circuit_meanings c.all_fit.new.sym) (circuit_grows c.args.sym.now c.input_cells.new.sym c.input_cells.ensures.grows) c.all_fit.ensures.grows

pub returns-clause-cells : goal.returns-clause-cells
returns-clause-cells c =
    let m1 = circuit_meanings c.input_cells.new.sym in
    let cells = c.in_ok-cells.cells in
    cells_stay m1 (circuit_meanings c.all_fit.new.sym) cells c.all_fit.ensures.grows (input_cells_own c.input_cells.new.sym (input_count c.args.sym.now) _ _ cells c.in_ok-cells.ensures.cells)

pub returns-clause-grows : goal.returns-clause-grows
returns-clause-grows c =
    grows_on (circuit_meanings c.args.sym.now) (circuit_meanings c.input_cells.new.sym) (circuit_meanings c.all_fit.new.sym) (circuit_grows c.args.sym.now c.input_cells.new.sym c.input_cells.ensures.grows) c.all_fit.ensures.grows

pub returns-clause-exact : goal.returns-clause-exact
returns-clause-exact c = λ v.
    let table = c.args.domain.now.table in
    let cells = c.in_ok-cells.cells in
    let k = input_count c.args.sym.now in
    let m1 = circuit_meanings c.input_cells.new.sym in
    let m2 = circuit_meanings c.all_fit.new.sym in
    let own = input_cells_own c.input_cells.new.sym k _ _ cells c.in_ok-cells.ensures.cells in
    let keep = cells_keep m1 m2 cells c.all_fit.ensures.grows own v in
    let fine = c.all_fit.ensures.grows.bit cells.error own.error v ∙ c.in_ok-cells.ensures.cells.no_error v in
    let told = c.in_ok-well.ensures.gives.means v ∙ ap (λ f. all_fit table f (length table.paths)) (sym keep) in
    let exact = tree_exactly c.file_trees.ensures.put c.args.domain.now (state_of m2 v cells) c.is_table.ensures c.paths_are_proper.ensures c.contents_are_bytes.ensures fine in
    ((λ h. exact.0 (sym told ∙ h)), (λ h. told ∙ exact.1 h))

pub returns-clause-every : goal.returns-clause-every
returns-clause-every c = λ u t over.
    let cells = c.in_ok-cells.cells in
    let k = input_count c.args.sym.now in
    let m1 = circuit_meanings c.input_cells.new.sym in
    let m2 = circuit_meanings c.all_fit.new.sym in
    let own = input_cells_own c.input_cells.new.sym k _ _ cells c.in_ok-cells.ensures.cells in
    let table = c.args.domain.now.table in
    let width = c.width_for-width.result in
    let inputs = subst (λ n. AreInputCells c.input_cells.new.sym k n width cells) c.path_count.ensures c.in_ok-cells.ensures.cells in
    let wide : length table.contents - 1 < twice width = omega (arith, c.width_for-width.ensures.enough, c.saturating_sub.ensures, c.content_count.ensures) in
    let told = tree_every c.args.domain.now c.input_cells.new.sym k width cells inputs wide u t over in
    (told.0, told.1, subst (λ (s : State). Stands c.args.domain.now.table s t) (sym (state_keeps m1 m2 cells c.all_fit.ensures.grows own told.0)) told.2)
