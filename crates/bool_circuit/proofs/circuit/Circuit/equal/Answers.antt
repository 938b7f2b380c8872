use Rattle.std.proofs.Common.{◌∙◌, ap, length, get_or, ◌<◌, ◌&&◌, arith}
use Rattle.bool_circuit.specs.Gates.{wire_value}
use Rattle.bool_circuit.specs.Agreement.{same_truth}
use Rattle.bool_circuit.proofs.Growth.{grows_more}
use Rattle.bool_circuit.proofs.Loops.{agreement_step, agreement_true}
use Rattle.bool_circuit.proofs.circuit.Circuit.equal.Goals as goal

pub loop-i-preserved : goal.loop-i-preserved
loop-i-preserved c =
    let old = c.args.self.now in
    let i = c.loop-i.i in
    let inv = c.loop-i.invariant in
    let a = get_or c.args.a.now i record { 0 = 0 } in
    let b = get_or c.args.b.now i record { 0 = 0 } in
    let in_a : i < length c.args.a.now = omega arith in
    let in_b : i < length c.args.b.now = omega arith in
    let wire_a = c.requires.a i record { 0 = 0 } in_a in
    let wire_b = c.requires.b i record { 0 = 0 } in_b in
    let grown = grows_more c.loop-i.self c.same.new.self c.and.new.self c.in_ok-same.ensures.grows c.in_ok-all-2.ensures.grows in
    record {
      wire = c.in_ok-all-2.ensures.wire;
      grows = grows_more old c.loop-i.self c.and.new.self inv.grows grown;
      count = c.in_ok-all-2.ensures.inputs ∙ c.in_ok-same.ensures.inputs ∙ inv.count;
      so_far = λ inputs. agreement_step (wire_value old inputs) c.args.a.now c.args.b.now i
          (wire_value c.loop-i.self inputs c.loop-i.all.0) (wire_value c.same.new.self inputs c.in_ok-same.same.0) (wire_value c.and.new.self inputs c.in_ok-all-2.all.0)
          in_a in_b
          (c.in_ok-same.ensures.value inputs ∙ ap (λ x. same_truth x (wire_value c.loop-i.self inputs b.0)) (inv.grows.values inputs a.0 wire_a) ∙ ap (same_truth (wire_value old inputs a.0)) (inv.grows.values inputs b.0 wire_b))
          (c.in_ok-all-2.ensures.value inputs ∙ ap (λ x. x && wire_value c.same.new.self inputs c.in_ok-same.same.0) (c.in_ok-same.ensures.grows.values inputs c.loop-i.all.0 inv.wire))
          (inv.so_far inputs);
    }

pub returns-clause-value : goal.returns-clause-value
returns-clause-value c inputs = agreement_true (wire_value c.args.self.now inputs) c.args.a.now c.args.b.now c.loop-i.i (wire_value c.loop-i.self inputs c.loop-i.all.0) (omega arith) (c.loop-i.invariant.so_far inputs)
