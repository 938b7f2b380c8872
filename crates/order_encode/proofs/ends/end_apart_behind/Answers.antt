use Rattle.std.proofs.Common.{◌∷◌, map, sym, ap, subst}
use Rattle.std.proofs.lemmas.Result.{IfOk-weaker}
use Rattle.fs_semantics.specs.Programs.{and_then}
use Rattle.fs_semantics.specs.Orders.{outcome}
use Rattle.fs_lang.specs.Meaning.{program_of}
use Rattle.fs_interpreter.specs.States.{state_of}
use Rattle.fs_interpreter.specs.Standing.{StandsFor}
use Rattle.fs_interpreter.proofs.Frames.{cells_stay}
use Rattle.sym_run.specs.Wires.{circuit_meanings}
use Rattle.order_circuit.specs.Codes.{node, nodes, part_of}
use Rattle.order_circuit.proofs.RunLaws.{nodes_stay, rows_stay}
use Rattle.order_encode.specs.Plans.{Planned}
use Rattle.order_encode.proofs.GrowthLaws.{◌>>◌, still_stands}
use Rattle.order_encode.proofs.ends.end_apart_behind.Goals as goal

pub run_on-requires-2-clause-rest : goal.run_on-requires-2-clause-rest
run_on-requires-2-clause-rest c = rows_stay c.args.sym.now c.run_on.new.sym c.args.rest.now.codes.now c.run_on.ensures.grows c.requires.rest

pub run_on-requires-2-clause-fork : goal.run_on-requires-2-clause-fork
run_on-requires-2-clause-fork c =
    let g = c.run_on.ensures.grows in
    let is = c.requires.fork in
    record { first = g.owns_code _ is.second; second = g.owns_code _ is.first; cells = cells_stay _ _ _ g is.cells; places = is.places }

pub unlike-requires-clause-a : goal.unlike-requires-clause-a
unlike-requires-clause-a c = cells_stay _ _ _ c.run_on-2.ensures.grows c.in_ok-one.ensures.cells

pub returns-clause-exact : goal.returns-clause-exact
returns-clause-exact c = IfOk-weaker c.unlike.result _ _ (λ w is v o h.
    let table = c.args.plan.now.domain.table in
    let table_is = ap (λ (p : Planned). p.domain.table) c.plan.view_is in
    let es = map program_of c.args.plan.now.programs in
    let g0 = c.args.sym.now in
    let g1 = c.run_on.new.sym in
    let m2 = circuit_meanings c.run_on-2.new.sym in
    let g01 = c.run_on.ensures.grows in
    let first = c.args.fork.now.first.now in
    let second = c.args.fork.now.second.now in
    let place = c.args.rest.now.place.now in
    let rows = c.args.rest.now.codes.now in
    let ahead = c.args.rest.now.ahead in
    let x = node g0 v first in
    let y = node g0 v second in
    let rest = part_of ahead (node g0 v place) (nodes g0 v rows) in
    let left = and_then o (outcome es (x ∷ y ∷ rest)) in
    let right = and_then o (outcome es (y ∷ x ∷ rest)) in
    let x1 = g01.code first c.requires.fork.first v in
    let y1 = g01.code second c.requires.fork.second v in
    let j1 = g01.code place c.requires.place v in
    let rest1 = nodes_stay g0 g1 rows g01 c.requires.rest v in
    let one = still_stands table left c.run_on-2.ensures.grows c.in_ok-one.ensures.cells v (c.in_ok-one.ensures.stands v o h) in
    let other = subst (StandsFor table (state_of m2 v c.in_ok-other.other)) (λ t. and_then o (outcome es (y1 t ∷ x1 t ∷ part_of ahead (j1 t) (rest1 t)))) (c.in_ok-other.ensures.stands v o (still_stands table o g01 c.requires.fork.cells v h)) in
    is v left right (subst (λ l. StandsFor l (state_of m2 v c.in_ok-one.one) left) (sym table_is) one) (subst (λ l. StandsFor l (state_of m2 v c.in_ok-other.other) right) (sym table_is) other)) c.unlike.ensures.exact

pub returns-in_err-other-clause-grows : goal.returns-in_err-other-clause-grows
returns-in_err-other-clause-grows c = c.run_on.ensures.grows >> c.run_on-2.ensures.grows

pub returns-clause-grows : goal.returns-clause-grows
returns-clause-grows c = c.run_on.ensures.grows >> c.run_on-2.ensures.grows >> c.unlike.ensures.grows
