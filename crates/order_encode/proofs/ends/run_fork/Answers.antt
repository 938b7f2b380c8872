use Rattle.std.proofs.Common.{map, subst}
use Rattle.std.proofs.lemmas.Result.{IfOk-weaker}
use Rattle.std.specs.Prelude.{slice_index_or}
use Rattle.fs_semantics.specs.Programs.{Id, and_then, run}
use Rattle.fs_lang.specs.Meaning.{program_of}
use Rattle.fs_interpreter.specs.States.{state_of}
use Rattle.fs_interpreter.specs.Standing.{StandsFor}
use Rattle.sym_run.specs.Wires.{circuit_meanings}
use Rattle.order_circuit.specs.Codes.{node}
use Rattle.order_encode.proofs.GrowthLaws.{◌>>◌}
use Rattle.order_encode.proofs.ends.run_fork.Goals as goal

pub returns-clause-stands : goal.returns-clause-stands
returns-clause-stands c = rw (← c.plan.view_is) (IfOk-weaker c.run_place-2.result _ _ (λ made stands v o h.
    let table = c.plan.inside.domain.now.table in
    let es = map program_of c.plan.inside.programs.now in
    let x = node c.args.sym.now v c.args.fork.now.first.now in
    let y_is = c.run_place.ensures.grows.code c.args.fork.now.second.now c.requires.fork.second v in
    let so_far = and_then o (run (slice_index_or es x Id)) in
    let one = c.in_ok-one.ensures.stands v o h in
    subst (λ n. StandsFor table (state_of (circuit_meanings c.run_place-2.new.sym) v made) (and_then so_far (run (slice_index_or es n Id)))) y_is (stands v so_far one)) c.run_place-2.ensures.stands)

pub returns-clause-grows : goal.returns-clause-grows
returns-clause-grows c = c.run_place.ensures.grows >> c.run_place-2.ensures.grows
