use Rattle.std.proofs.Common.{◌≡◌, ◌==◌, length, map, cond, nat_lt, sym, ap, subst, ◌∙◌, arith}
use Rattle.std.specs.Prelude.{slice_index_or}
use Rattle.bool_circuit.specs.Gates.{wire_value}
use Rattle.fs_semantics.specs.Programs.{Id, and_then, run}
use Rattle.fs_lang.specs.Meaning.{program_of}
use Rattle.fs_interpreter.specs.States.{State, state_of}
use Rattle.fs_interpreter.specs.Standing.{StandsFor}
use Rattle.fs_interpreter.proofs.Frames.{grows_on, cells_stay, state_keeps}
use Rattle.sym_run.specs.Wires.{circuit_meanings}
use Rattle.order_circuit.specs.Codes.{node}
use Rattle.order_circuit.proofs.RunLaws.{covers_at, program_at, run_start, run_step, run_end}
use Rattle.order_circuit.proofs.runs.run_place.Goals as goal

pub loop-i-init : goal.loop-i-init
loop-i-init c = record {
  cells = c.in_ok-made.ensures.cells;
  places = c.in_ok-made.ensures.places;
  stands = λ v o h. run_start c.args.domain.now.table (map program_of c.args.programs.now) (node c.args.sym.now v c.args.code.now) o _ (subst (λ (s : State). StandsFor c.args.domain.now.table s o) (sym (c.in_ok-made.ensures.told v)) h);
  grows = c.copy_cells.ensures.grows;
}

pub loop-i-preserved : goal.loop-i-preserved
loop-i-preserved c =
    let before = c.loop-i.invariant in
    let m0 = circuit_meanings c.args.sym.now in
    let m1 = circuit_meanings c.loop-i.sym in
    let m2 = circuit_meanings c.tells.new.sym in
    let s3 = c.run_one.new.sym in
    let m3 = circuit_meanings s3 in
    let m4 = circuit_meanings c.choose.new.sym in
    let table = c.args.domain.now.table in
    let programs = c.args.programs.now in
    let es = map program_of programs in
    let cells = c.args.cells.now in
    let code = c.args.code.now in
    let i = c.loop-i.i in
    let made = c.loop-i.made in
    let one = c.in_ok-one.one in
    let g12 = c.tells.ensures.grows in
    let g23 = c.run_one.ensures.grows in
    let g02 = grows_on m0 m1 m2 before.grows g12 in
    let g13 = grows_on m1 m2 m3 g12 g23 in
    let program = c.index-programs-i.result in
    record {
      cells = c.in_ok-made-2.ensures.cells;
      places = c.in_ok-made-2.ensures.places;
      grows = grows_on m0 m3 m4 (grows_on m0 m2 m3 g02 g23) c.choose.ensures.grows;
      stands = λ v o h.
          let n = node c.args.sym.now v code in
          let when : wire_value s3 v c.in_ok-when.when.0 ≡ (i == n) = g23.bit c.in_ok-when.when c.in_ok-when.ensures.wire v ∙ c.in_ok-when.ensures.value v ∙ ap (λ k. i == k) (before.grows.code code c.requires.code v) in
          let told = c.in_ok-made-2.ensures.told v ∙ (λ t. cond (when t) (state_of m3 v one) (state_of m3 v made)) in
          let ran = c.in_ok-one.ensures.stands v o (subst (λ (s : State). StandsFor table s o) (sym (state_keeps m0 m2 cells g02 c.requires.cells v)) h) in
          let at = program_at programs i program c.index-programs-i.is c.loop-i-test.true in
          run_step table es i n o (state_of m1 v made) (state_of m4 v c.in_ok-made-2.made) (before.stands v o h)
          (λ e. subst (λ (s : State). StandsFor table s (and_then o (run (slice_index_or es i Id)))) (sym (told ∙ (λ t. cond (e t) (state_of m3 v one) (state_of m3 v made))))
          (subst (λ p. StandsFor table (state_of m3 v one) (and_then o (run p))) (sym at) ran))
          (λ e. told ∙ (λ t. cond (e t) (state_of m3 v one) (state_of m3 v made)) ∙ state_keeps m1 m3 made g13 before.cells v);
    }

pub run_one-requires-clause-covers : goal.run_one-requires-clause-covers
run_one-requires-clause-covers c = covers_at c.args.domain.now.table c.args.programs.now c.loop-i.i c.index-programs-i.result c.requires.covers c.index-programs-i.is c.loop-i-test.true

pub returns-clause-stands : goal.returns-clause-stands
returns-clause-stands c = λ v o h.
    let table = c.args.domain.now.table in
    let programs = c.args.programs.now in
    let n = node c.args.sym.now v c.args.code.now in
    let all : c.loop-i.i ≡ length programs = omega arith in
    run_end table programs n o (state_of (circuit_meanings c.loop-i.sym) v c.loop-i.made)
    (subst (λ k. StandsFor table (state_of (circuit_meanings c.loop-i.sym) v c.loop-i.made) (cond (nat_lt n k) (and_then o (run (slice_index_or (map program_of programs) n Id))) o)) all (c.loop-i.invariant.stands v o h))

pub returns-in_err-when-clause-grows : goal.returns-in_err-when-clause-grows
returns-in_err-when-clause-grows c = grows_on (circuit_meanings c.args.sym.now) (circuit_meanings c.loop-i.sym) (circuit_meanings c.tells.new.sym) c.loop-i.invariant.grows c.tells.ensures.grows

pub run_one-requires-clause-cells : goal.run_one-requires-clause-cells
run_one-requires-clause-cells c =
    let m0 = circuit_meanings c.args.sym.now in
    let m1 = circuit_meanings c.loop-i.sym in
    let m2 = circuit_meanings c.tells.new.sym in
    cells_stay m0 m2 c.args.cells.now (grows_on m0 m1 m2 c.loop-i.invariant.grows c.tells.ensures.grows) c.requires.cells

pub choose-requires-clause-b : goal.choose-requires-clause-b
choose-requires-clause-b c =
    let m1 = circuit_meanings c.loop-i.sym in
    let m2 = circuit_meanings c.tells.new.sym in
    let m3 = circuit_meanings c.run_one.new.sym in
    cells_stay m1 m3 c.loop-i.made (grows_on m1 m2 m3 c.tells.ensures.grows c.run_one.ensures.grows) c.loop-i.invariant.cells

pub returns-in_err-one-clause-grows : goal.returns-in_err-one-clause-grows
returns-in_err-one-clause-grows c =
    let m0 = circuit_meanings c.args.sym.now in
    let m1 = circuit_meanings c.loop-i.sym in
    let m2 = circuit_meanings c.tells.new.sym in
    grows_on m0 m2 (circuit_meanings c.run_one.new.sym) (grows_on m0 m1 m2 c.loop-i.invariant.grows c.tells.ensures.grows) c.run_one.ensures.grows

pub returns-in_err-made-2-clause-grows : goal.returns-in_err-made-2-clause-grows
returns-in_err-made-2-clause-grows c =
    let m0 = circuit_meanings c.args.sym.now in
    let m1 = circuit_meanings c.loop-i.sym in
    let m2 = circuit_meanings c.tells.new.sym in
    let m3 = circuit_meanings c.run_one.new.sym in
    grows_on m0 m3 (circuit_meanings c.choose.new.sym) (grows_on m0 m2 m3 (grows_on m0 m1 m2 c.loop-i.invariant.grows c.tells.ensures.grows) c.run_one.ensures.grows) c.choose.ensures.grows
