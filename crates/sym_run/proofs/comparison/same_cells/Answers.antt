use Rattle.std.proofs.Common.{◌≡◌, ◌+◌, ℕ, suc, ap, ◌∙◌, arith}
use Rattle.std.specs.Prelude.{◌&&◌}
use Rattle.fs_interpreter.specs.States.{cell_at}
use Rattle.fs_interpreter.proofs.Frames.{cells_stay, cells_keep, grows_on}
use Rattle.sym_run.specs.Alike.{same_cell, same_cells}
use Rattle.sym_run.specs.Wires.{circuit_meanings}
use Rattle.sym_run.proofs.comparison.same_cells.Goals as goal

pub loop-i-init : goal.loop-i-init
loop-i-init c =
    let m0 = circuit_meanings c.args.sym.now in
    let m1 = circuit_meanings c.constant.new.self in
    record {
      a = cells_stay m0 m1 c.args.a.now c.constant.ensures.grows c.requires.a;
      b = cells_stay m0 m1 c.args.b.now c.constant.ensures.grows c.requires.b;
      all = record { owned = c.in_ok-all.ensures.gives.owned; means = c.in_ok-all.ensures.gives.means };
      grows = c.constant.ensures.grows;
    }

pub returns-in_err-same-clause-grows : goal.returns-in_err-same-clause-grows
returns-in_err-same-clause-grows c = grows_on (circuit_meanings c.args.sym.now) (circuit_meanings c.loop-i.sym) (circuit_meanings c.same_place.new.sym) c.loop-i.invariant.grows c.same_place.ensures.grows

pub returns-in_err-all-2-clause-grows : goal.returns-in_err-all-2-clause-grows
returns-in_err-all-2-clause-grows c =
    let m0 = circuit_meanings c.args.sym.now in
    let m1 = circuit_meanings c.loop-i.sym in
    let m2 = circuit_meanings c.same_place.new.sym in
    grows_on m0 m2 (circuit_meanings c.and.new.self) (grows_on m0 m1 m2 c.loop-i.invariant.grows c.same_place.ensures.grows) c.and.ensures.grows

pub loop-i-preserved : goal.loop-i-preserved
loop-i-preserved c =
    let before = c.loop-i.invariant in
    let a = c.args.a.now in
    let b = c.args.b.now in
    let i = c.loop-i.i in
    let m0 = circuit_meanings c.args.sym.now in
    let m1 = circuit_meanings c.loop-i.sym in
    let m2 = circuit_meanings c.same_place.new.sym in
    let m3 = circuit_meanings c.and.new.self in
    let g01 = before.grows in
    let g12 = c.same_place.ensures.grows in
    let g23 = c.and.ensures.grows in
    record {
      a = cells_stay m2 m3 a g23 (cells_stay m1 m2 a g12 before.a);
      b = cells_stay m2 m3 b g23 (cells_stay m1 m2 b g12 before.b);
      all = record {
        owned = c.in_ok-all-2.ensures.gives.owned;
        means = λ v. c.in_ok-all-2.ensures.gives.means v
            ∙ (λ t. (g12.bit c.loop-i.all before.all.owned v ∙ before.all.means v) t && (c.in_ok-same.ensures.gives.means v ∙ (λ s. same_cell (cells_keep m0 m1 a g01 c.requires.a v s i) (cells_keep m0 m1 b g01 c.requires.b v s i))) t)
            ∙ ap (same_cells (cell_at m0 v a) (cell_at m0 v b)) (next i);
      };
      grows = grows_on m0 m2 m3 (grows_on m0 m1 m2 g01 g12) g23;
    }
  where
    next : (n : ℕ) → suc n ≡ n + 1
    next n = omega arith
