use Rattle.std.proofs.Common.{◌≡◌, true, map, ap, subst, ◌∙◌}
use Rattle.std.specs.Prelude.{◌&&◌, ◌↔◌}
use Rattle.bool_circuit.specs.Gates.{wire_value}
use Rattle.fs_lang.specs.Meaning.{program_of}
use Rattle.order_circuit.specs.Codes.{node, nodes, part_of}
use Rattle.order_circuit.proofs.RunLaws.{nodes_stay, rows_stay}
use Rattle.order_encode.specs.Goals.{EndApartThen}
use Rattle.order_encode.proofs.GoalLaws.{tells_same}
use Rattle.order_encode.proofs.ForkLaws.{apart_at, asked_besides}
use Rattle.order_encode.proofs.GrowthLaws.{◌>>◌, still_stands, fork_stays}
use Rattle.order_encode.proofs.ends.end_apart_from.Goals as goal

pub end_apart_behind-requires-clause-fork : goal.end_apart_behind-requires-clause-fork
end_apart_behind-requires-clause-fork c = fork_stays c.some_pair_differs.ensures.grows c.requires.fork

pub end_apart_behind-requires-clause-rest : goal.end_apart_behind-requires-clause-rest
end_apart_behind-requires-clause-rest c = rows_stay c.args.sym.now c.some_pair_differs.new.sym c.args.rest.now.codes.now c.some_pair_differs.ensures.grows c.requires.rest

pub returns-clause-exact : goal.returns-clause-exact
returns-clause-exact c = λ v o h free.
    let es = map program_of c.args.plan.now.programs in
    let g0 = c.args.sym.now in
    let g1 = c.some_pair_differs.new.sym in
    let g2 = c.end_apart_behind.new.sym in
    let g01 = c.some_pair_differs.ensures.grows in
    let g12 = c.end_apart_behind.ensures.grows in
    let first = c.args.fork.now.first.now in
    let second = c.args.fork.now.second.now in
    let place = c.args.rest.now.place.now in
    let rows = c.args.rest.now.codes.now in
    let ahead = c.args.rest.now.ahead in
    let x = node g0 v first in
    let y = node g0 v second in
    let rest = part_of ahead (node g0 v place) (nodes g0 v rows) in
    let x1 = g01.code first c.requires.fork.first v in
    let y1 = g01.code second c.requires.fork.second v in
    let j1 = g01.code place c.requires.place v in
    let rest1 = nodes_stay g0 g1 rows g01 c.requires.rest v in
    let h1 = still_stands c.args.plan.now.domain.table o g01 c.requires.fork.cells v h in
    let near = wire_value g1 v c.in_ok-near.near.wire.0 in
    let apart = wire_value g2 v c.in_ok-apart.apart.0 in
    let is_apart : (apart ≡ true) ↔ EndApartThen es o x y rest = subst (λ b. b) (λ t. (apart ≡ true) ↔ EndApartThen es o (x1 t) (y1 t) (part_of ahead (j1 t) (rest1 t))) (c.in_ok-apart.ensures.exact v o h1) in
    let exact = asked_besides near apart (c.in_ok-near.ensures.found v o h free) (apart_at es o x y rest) is_apart in
    tells_same (c.in_ok-wire.ensures.gives.means v ∙ ap (λ b. b && apart) (g12.bit c.in_ok-near.near.wire c.in_ok-near.ensures.wire v)) exact

pub returns-in_err-apart-clause-grows : goal.returns-in_err-apart-clause-grows
returns-in_err-apart-clause-grows c = c.some_pair_differs.ensures.grows >> c.end_apart_behind.ensures.grows

pub returns-in_err-wire-clause-grows : goal.returns-in_err-wire-clause-grows
returns-in_err-wire-clause-grows c = c.some_pair_differs.ensures.grows >> c.end_apart_behind.ensures.grows >> c.and.ensures.grows

pub returns-clause-grows : goal.returns-clause-grows
returns-clause-grows c = c.some_pair_differs.ensures.grows >> c.end_apart_behind.ensures.grows >> c.and.ensures.grows
