use Rattle.std.proofs.Common.{true, cond, ◌∙◌}
use Rattle.std.specs.Prelude.{◌&&◌}
use Rattle.fs_interpreter.proofs.Frames.{grows_on, if_means}
use Rattle.sym_run.specs.Alike.{same_truth}
use Rattle.sym_run.specs.Wires.{circuit_meanings}
use Rattle.sym_run.proofs.comparison.same_state.Goals as goal

pub returns-in_err-either-clause-grows : goal.returns-in_err-either-clause-grows
returns-in_err-either-clause-grows c =
    grows_on (circuit_meanings c.args.sym.now) (circuit_meanings c.same_cells.new.sym) (circuit_meanings c.unless_holds.new.bits) c.same_cells.ensures.grows c.unless_holds.ensures.grows

pub returns-in_err-error-clause-grows : goal.returns-in_err-error-clause-grows
returns-in_err-error-clause-grows c =
    let m0 = circuit_meanings c.args.sym.now in
    let m1 = circuit_meanings c.same_cells.new.sym in
    let m2 = circuit_meanings c.unless_holds.new.bits in
    grows_on m0 m2 (circuit_meanings c.same_bit.new.bits) (grows_on m0 m1 m2 c.same_cells.ensures.grows c.unless_holds.ensures.grows) c.same_bit.ensures.grows

pub returns-clause-gives : goal.returns-clause-gives
returns-clause-gives c =
    let m0 = circuit_meanings c.args.sym.now in
    let m1 = circuit_meanings c.same_cells.new.sym in
    let m2 = circuit_meanings c.unless_holds.new.bits in
    let m4 = circuit_meanings c.and.new.self in
    let a = c.args.a.now in
    let b = c.args.b.now in
    let g01 = c.same_cells.ensures.grows in
    let g02 = grows_on m0 m1 m2 g01 c.unless_holds.ensures.grows in
    let g23 = c.same_bit.ensures.grows in
    if_means m4 _ _ c.and.result c.and.ensures.gives (λ v.
    let error = c.in_ok-error.ensures.gives.means v ∙ (λ s. same_truth (g02.bit a.error c.requires.a.error v s) (g02.bit b.error c.requires.b.error v s)) in
    let either = g23.bit c.in_ok-either.either c.in_ok-either.ensures.gives.owned v ∙ c.in_ok-either.ensures.gives.means v
    ∙ (λ s. cond (g01.bit a.error c.requires.a.error v s) true (c.in_ok-cells.ensures.gives.means v s)) in
    (λ t. error t && either t))

pub returns-clause-grows : goal.returns-clause-grows
returns-clause-grows c =
    let m0 = circuit_meanings c.args.sym.now in
    let m1 = circuit_meanings c.same_cells.new.sym in
    let m2 = circuit_meanings c.unless_holds.new.bits in
    let m3 = circuit_meanings c.same_bit.new.bits in
    grows_on m0 m3 (circuit_meanings c.and.new.self) (grows_on m0 m2 m3 (grows_on m0 m1 m2 c.same_cells.ensures.grows c.unless_holds.ensures.grows) c.same_bit.ensures.grows) c.and.ensures.grows
