use Rattle.std.proofs.Common.{map, subst, ◌∙◌}
use Rattle.std.proofs.lemmas.Result.{IfOk-weaker}
use Rattle.std.specs.Prelude.{slice_index_or}
use Rattle.fs_semantics.specs.Programs.{Id, and_then, run}
use Rattle.fs_semantics.specs.Orders.{outcome}
use Rattle.fs_lang.specs.Meaning.{program_of}
use Rattle.fs_interpreter.specs.States.{state_of}
use Rattle.fs_interpreter.specs.Standing.{StandsFor}
use Rattle.sym_run.specs.Wires.{circuit_meanings}
use Rattle.order_circuit.specs.Codes.{node, nodes, part_of}
use Rattle.order_circuit.proofs.RunLaws.{nodes_stay}
use Rattle.order_encode.proofs.ForkLaws.{two_more}
use Rattle.order_encode.proofs.GrowthLaws.{◌>>◌}
use Rattle.order_encode.proofs.ends.run_on.Goals as goal

pub returns-clause-stands : goal.returns-clause-stands
returns-clause-stands c = IfOk-weaker c.run_plan.result _ _ (λ made stands v o h.
    let table = c.args.plan.now.domain.table in
    let es = map program_of c.args.plan.now.programs in
    let g0 = c.args.sym.now in
    let g1 = c.run_fork.new.sym in
    let g01 = c.run_fork.ensures.grows in
    let x = node g0 v c.args.fork.now.first.now in
    let y = node g0 v c.args.fork.now.second.now in
    let j_is = g01.code c.args.rest.now.place.now c.requires.place v in
    let rest_is = nodes_stay g0 g1 c.args.rest.now.codes.now g01 c.requires.rest v in
    let rest = part_of c.args.rest.now.ahead (node g0 v c.args.rest.now.place.now) (nodes g0 v c.args.rest.now.codes.now) in
    let ran = and_then (and_then o (run (slice_index_or es x Id))) (run (slice_index_or es y Id)) in
    let two = c.in_ok-two.ensures.stands v o h in
    subst (StandsFor table (state_of (circuit_meanings c.run_plan.new.sym) v made)) ((λ t. and_then ran (outcome es (part_of c.args.rest.now.ahead (j_is t) (rest_is t)))) ∙ two_more es x y rest o) (stands v ran two)) c.run_plan.ensures.stands

pub returns-clause-grows : goal.returns-clause-grows
returns-clause-grows c = c.run_fork.ensures.grows >> c.run_plan.ensures.grows
