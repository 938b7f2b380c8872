use Rattle.std.proofs.Common.{◌≡◌, length, map, sym, ap, subst, ◌∙◌}
use Rattle.std.proofs.lemmas.List.{length-map}
use Rattle.std.specs.Prelude.{slice_index_or}
use Rattle.fs_semantics.specs.Programs.{Id, and_then}
use Rattle.fs_semantics.specs.Orders.{outcome}
use Rattle.fs_lang.specs.Meaning.{program_of}
use Rattle.fs_interpreter.specs.States.{State, state_of}
use Rattle.fs_interpreter.specs.Standing.{StandsFor}
use Rattle.fs_interpreter.proofs.Frames.{grows_on, cells_stay, state_keeps}
use Rattle.sym_run.specs.Wires.{circuit_meanings}
use Rattle.order_circuit.specs.Codes.{node, nodes, kept_from}
use Rattle.order_circuit.proofs.PartLaws.{part_is, none_past}
use Rattle.order_circuit.proofs.parts.run_part.Goals as goal
use Rattle.fs_interpreter.proofs.HasLaws.{if_ok}

pub run_in_order-requires-clause-cells : goal.run_in_order-requires-clause-cells
run_in_order-requires-clause-cells c = cells_stay (circuit_meanings c.args.sym.now) (circuit_meanings c.kept_codes.new.sym) c.args.start.now c.kept_codes.ensures.grows c.requires.cells

pub returns-clause-stands : goal.returns-clause-stands
returns-clause-stands c = if_ok _ _ c.run_in_order.result (λ made stands v o h.
    let table = c.args.domain.now.table in
    let es = map program_of c.args.programs.now in
    let blank = length c.args.programs.now in
    let g0 = c.args.sym.now in
    let g1 = c.kept_codes.new.sym in
    let j = node g0 v c.args.part.now.place.now in
    let order = nodes g0 v c.args.part.now.codes.now in
    let nothing = ap (λ n. slice_index_or es n Id) (sym (length-map c.args.programs.now program_of)) ∙ none_past es in
    let kept : nodes g1 v c.as_slice.result.now ≡ kept_from c.args.part.now.ahead blank j 0 order = ap (nodes g1 v) c.as_slice.ensures ∙ c.in_ok-kept.ensures.value v in
    let start = subst (λ (s : State). StandsFor table s o) (sym (state_keeps (circuit_meanings g0) (circuit_meanings g1) c.args.start.now c.kept_codes.ensures.grows c.requires.cells v)) h in
    subst (StandsFor table (state_of (circuit_meanings c.run_in_order.new.sym) v made)) (ap (λ ns. and_then o (outcome es ns)) kept ∙ part_is es blank nothing c.args.part.now.ahead j order o) (stands v o start)) c.run_in_order.ensures.stands

pub returns-clause-grows : goal.returns-clause-grows
returns-clause-grows c = grows_on (circuit_meanings c.args.sym.now) (circuit_meanings c.kept_codes.new.sym) (circuit_meanings c.run_in_order.new.sym) c.kept_codes.ensures.grows c.run_in_order.ensures.grows
