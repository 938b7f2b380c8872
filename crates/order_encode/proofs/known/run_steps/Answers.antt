use Rattle.std.proofs.Common.{◌+◌, length, map, drop, get_or, sym, ap, subst, ◌∙◌, arith}
use Rattle.std.specs.Prelude.{slice_index_or}
use Rattle.fs_semantics.specs.Programs.{Id, and_then, run}
use Rattle.fs_semantics.specs.Orders.{outcome}
use Rattle.fs_lang.specs.Meaning.{program_of}
use Rattle.fs_interpreter.specs.States.{state_of}
use Rattle.fs_interpreter.specs.Standing.{StandsFor}
use Rattle.sym_run.specs.Wires.{circuit_meanings}
use Rattle.order_circuit.proofs.RunLaws.{covers_at, program_at, after, no_more}
use Rattle.order_encode.proofs.ReadLaws.{rest_from, rest_done}
use Rattle.order_encode.proofs.KnownLaws.{node_below}
use Rattle.order_encode.proofs.GrowthLaws.{◌>>◌}
use Rattle.order_encode.proofs.known.run_steps.Goals as goal

pub sym_apply-requires-clause-covers : goal.sym_apply-requires-clause-covers
sym_apply-requires-clause-covers c = covers_at c.schedule.inside.domain.now.table c.schedule.inside.programs.now _ c.index-programs-i.result c.schedule.invariant.covers c.index-programs-i.is (node_below (length c.schedule.inside.programs.now) c.schedule.inside.order.now c.loop-i.i-index c.schedule.invariant.nodes c.loop-i-test.true)

pub returns-in_err-sym_apply-clause-grows : goal.returns-in_err-sym_apply-clause-grows
returns-in_err-sym_apply-clause-grows c = c.loop-i.invariant.grows >> c.sym_apply.ensures.grows

pub loop-i-preserved : goal.loop-i-preserved
loop-i-preserved c =
    let before = c.loop-i.invariant in
    let m2 = circuit_meanings c.sym_apply.new.sym in
    let table = c.schedule.inside.domain.now.table in
    let programs = c.schedule.inside.programs.now in
    let es = map program_of programs in
    let i = c.loop-i.i-index in
    let order = c.schedule.inside.order.now in
    let n = get_or order i 0 in
    let low = node_below (length programs) order i c.schedule.invariant.nodes c.loop-i-test.true in
    let at = program_at programs n c.index-programs-i.result c.index-programs-i.is low in
    record {
      cells = c.in_ok-sym_apply.ensures.cells;
      places = c.in_ok-sym_apply.ensures.places;
      grows = before.grows >> c.sym_apply.ensures.grows;
      stands = λ v o h.
          let so_far = before.stands v o h in (
            and_then so_far.0 (run (slice_index_or es n Id)),
            subst (λ p. StandsFor table (state_of m2 v c.sym_apply.new.state) (and_then so_far.0 (run p))) (sym at) (c.in_ok-sym_apply.ensures.stands v so_far.0 so_far.1),
            after so_far.0 (run (slice_index_or es n Id)) (outcome es (drop (i + 1) order))
                ∙ ap (λ ns. and_then so_far.0 (outcome es ns)) (sym (rest_from order i c.loop-i-test.true))
                ∙ so_far.2,
          );
    }

pub returns-clause-stands : goal.returns-clause-stands
returns-clause-stands c = rw (← c.schedule.view_is) (λ v o h.
    let es = map program_of c.schedule.inside.programs.now in
    let order = c.schedule.inside.order.now in
    let so_far = c.loop-i.invariant.stands v o h in
    let none_left = rest_done order c.loop-i.i-index (omega arith) in
    subst (StandsFor c.schedule.inside.domain.now.table (state_of (circuit_meanings c.loop-i.sym) v c.loop-i.cells)) (sym (no_more es so_far.0) ∙ ap (λ ns. and_then so_far.0 (outcome es ns)) (sym none_left) ∙ so_far.2) so_far.1)
