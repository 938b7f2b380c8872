use Rattle.std.proofs.Common.{◌+◌, ◌*◌, cond, sym, ap, ◌∙◌}
use Rattle.bool_circuit.specs.Gates.{wire_value}
use Rattle.sym_run.specs.Wires.{number, bit_number}
use Rattle.sym_run.proofs.CircuitLaws.{number_snoc, number_stays, chosen}
use Rattle.sym_run.proofs.codes.+pick_with.Goals as goal
use Rattle.fs_interpreter.proofs.HasLaws.{if_ok}

pub returns-clause-value : goal.returns-clause-value
returns-clause-value t c = if_ok _ _ c.with_last.result (λ ws is inputs.
    let v0 = wire_value c.args.circuit.now inputs in
    let v2 = wire_value c.mux.new.self inputs in
    let g1 = c.pick_with.ensures.grows in
    let front = number_stays _ _ c.in_ok-front.front c.mux.ensures.grows c.in_ok-front.ensures.own inputs ∙ c.in_ok-front.ensures.value inputs in
    let bit_c = g1.values inputs c.args.c.0 c.requires.c in
    let bit_a = g1.values inputs c.apart.result.1.0 c.apart.ensures.last in
    let bit_b = g1.values inputs c.apart-2.result.1.0 c.apart-2.ensures.last in
    let last = c.in_ok-last.ensures.value inputs ∙ (λ i. cond (bit_c i) (bit_a i) (bit_b i)) in
    let a = c.apart.ensures.value v0 (c.requires.off inputs) in
    let b = c.apart-2.ensures.value v0 (c.requires.off inputs) in
    ap (number v2) is ∙ number_snoc v2 c.in_ok-front.front c.in_ok-last.last
    ∙ (λ i. 2 * front i + bit_number (last i))
    ∙ chosen (v0 c.args.c.0) (v0 c.apart.result.1.0) (v0 c.apart-2.result.1.0) (number v0 c.apart.result.0.now) (number v0 c.apart-2.result.0.now)
    ∙ sym (λ i. cond (v0 c.args.c.0) (a i) (b i))) c.with_last.ensures
