use Rattle.std.proofs.Common.{◌≡◌, ◌+◌, ℕ, suc, ap, ◌∙◌, arith}
use Rattle.std.specs.Prelude.{◌&&◌}
use Rattle.fs_interpreter.specs.States.{cell_at}
use Rattle.fs_interpreter.proofs.Frames.{cells_stay, cells_keep, grows_on}
use Rattle.sym_run.specs.Fitting.{fits_at, all_fit}
use Rattle.sym_run.specs.Wires.{circuit_meanings}
use Rattle.sym_run.proofs.fits.all_fit.Goals as goal

pub loop-i-init : goal.loop-i-init
loop-i-init c =
    let m0 = circuit_meanings c.args.sym.now in
    let m1 = circuit_meanings c.constant.new.self in
    record {
      cells = cells_stay m0 m1 c.args.cells.now c.constant.ensures.grows c.requires.cells;
      all = record { owned = c.in_ok-all.ensures.gives.owned; means = c.in_ok-all.ensures.gives.means };
      grows = c.constant.ensures.grows;
    }

pub returns-in_err-one-clause-grows : goal.returns-in_err-one-clause-grows
returns-in_err-one-clause-grows c = grows_on (circuit_meanings c.args.sym.now) (circuit_meanings c.loop-i.sym) (circuit_meanings c.fits_at.new.sym) c.loop-i.invariant.grows c.fits_at.ensures.grows

pub returns-in_err-all-2-clause-grows : goal.returns-in_err-all-2-clause-grows
returns-in_err-all-2-clause-grows c =
    let m0 = circuit_meanings c.args.sym.now in
    let m1 = circuit_meanings c.loop-i.sym in
    let m2 = circuit_meanings c.fits_at.new.sym in
    grows_on m0 m2 (circuit_meanings c.and.new.self) (grows_on m0 m1 m2 c.loop-i.invariant.grows c.fits_at.ensures.grows) c.and.ensures.grows

pub loop-i-preserved : goal.loop-i-preserved
loop-i-preserved c =
    let before = c.loop-i.invariant in
    let cells = c.args.cells.now in
    let i = c.loop-i.i in
    let m0 = circuit_meanings c.args.sym.now in
    let m1 = circuit_meanings c.loop-i.sym in
    let m2 = circuit_meanings c.fits_at.new.sym in
    let m3 = circuit_meanings c.and.new.self in
    let g01 = before.grows in
    let g12 = c.fits_at.ensures.grows in
    let g23 = c.and.ensures.grows in
    record {
      cells = cells_stay m2 m3 cells g23 (cells_stay m1 m2 cells g12 before.cells);
      all = record {
        owned = c.in_ok-all-2.ensures.gives.owned;
        means = λ v. c.in_ok-all-2.ensures.gives.means v
            ∙ (λ t. (g12.bit c.loop-i.all before.all.owned v ∙ before.all.means v) t && (c.in_ok-one.ensures.gives.means v ∙ (λ s. fits_at c.args.table.now (cells_keep m0 m1 cells g01 c.requires.cells v s) i)) t)
            ∙ ap (all_fit c.args.table.now (cell_at m0 v cells)) (next i);
      };
      grows = grows_on m0 m2 m3 (grows_on m0 m1 m2 g01 g12) g23;
    }
  where
    next : (n : ℕ) → suc n ≡ n + 1
    next n = omega arith
