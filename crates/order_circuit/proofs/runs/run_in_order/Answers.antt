use Rattle.std.proofs.Common.{◌+◌, map, drop, sym, ap, subst, ◌∙◌, arith}
use Rattle.fs_semantics.specs.Programs.{and_then, run, Id}
use Rattle.fs_semantics.specs.Orders.{outcome}
use Rattle.std.specs.Prelude.{slice_index_or}
use Rattle.fs_lang.specs.Meaning.{program_of}
use Rattle.fs_interpreter.specs.States.{state_of}
use Rattle.fs_interpreter.specs.Standing.{StandsFor}
use Rattle.fs_interpreter.proofs.Frames.{grows_on}
use Rattle.sym_run.specs.Wires.{circuit_meanings}
use Rattle.order_circuit.specs.Codes.{node, nodes}
use Rattle.order_circuit.proofs.RunLaws.{row_at, nodes_from, none_behind, no_more, after}
use Rattle.order_circuit.proofs.runs.run_in_order.Goals as goal

pub loop-code-preserved : goal.loop-code-preserved
loop-code-preserved c =
    let before = c.loop-code.invariant in
    let m0 = circuit_meanings c.args.sym.now in
    let m1 = circuit_meanings c.loop-code.sym in
    let m2 = circuit_meanings c.run_place.new.sym in
    let table = c.args.domain.now.table in
    let es = map program_of c.args.programs.now in
    let i = c.loop-code.code-index in
    let rows = c.args.codes.now in
    let code = c.code-item.result in
    let own = row_at c.args.sym.now rows i code c.code-item.is c.requires.codes c.loop-code-test.true in
    record {
      cells = c.in_ok-cells-2.ensures.cells;
      places = c.in_ok-cells-2.ensures.places;
      grows = grows_on m0 m1 m2 before.grows c.run_place.ensures.grows;
      stands = λ v o h.
          let so_far = before.stands v o h in
          let n = node c.args.sym.now v code in
          let same = before.grows.code code own v in (
            and_then so_far.0 (run (slice_index_or es n Id)),
            subst (λ k. StandsFor table (state_of m2 v c.in_ok-cells-2.cells) (and_then so_far.0 (run (slice_index_or es k Id)))) same (c.in_ok-cells-2.ensures.stands v so_far.0 so_far.1),
            after so_far.0 (run (slice_index_or es n Id)) (outcome es (nodes c.args.sym.now v (drop (i + 1) rows)))
                ∙ ap (λ ns. and_then so_far.0 (outcome es ns)) (sym (nodes_from c.args.sym.now v rows i code c.code-item.is c.loop-code-test.true))
                ∙ so_far.2,
          );
    }

pub returns-in_err-cells-2-clause-grows : goal.returns-in_err-cells-2-clause-grows
returns-in_err-cells-2-clause-grows c = grows_on (circuit_meanings c.args.sym.now) (circuit_meanings c.loop-code.sym) (circuit_meanings c.run_place.new.sym) c.loop-code.invariant.grows c.run_place.ensures.grows

pub returns-clause-stands : goal.returns-clause-stands
returns-clause-stands c = λ v o h.
    let es = map program_of c.args.programs.now in
    let rows = c.args.codes.now in
    let so_far = c.loop-code.invariant.stands v o h in
    let none_left = none_behind rows c.loop-code.code-index (omega arith) in
    subst (StandsFor c.args.domain.now.table (state_of (circuit_meanings c.loop-code.sym) v c.loop-code.cells)) (sym (no_more es so_far.0) ∙ ap (λ xs. and_then so_far.0 (outcome es (nodes c.args.sym.now v xs))) (sym none_left) ∙ so_far.2) so_far.1
