use Rattle.std.proofs.Common.{Bool, take, set, ◌+◌, ap, ◌∙◌, arith}
use Rattle.std.proofs.lemmas.List.{length-set}
use Rattle.bool_circuit.specs.Gates.{truth_at}
use Rattle.bool_circuit.proofs.Loops.{value_more}
use Rattle.bool_circuit.proofs.circuit.Circuit.value.Goals as goal

pub loop-k-preserved : goal.loop-k-preserved
loop-k-preserved c =
    let m = value_more c.args.self.now (truth_at c.args.inputs.now) c.loop-k.into c.loop-k.k c.gate-gate.result c.gate-gate.ensures.gate (omega arith) c.loop-k.invariant.1 in (
      length-set c.loop-k.into c.loop-k.k c.told_value-value.result ∙ c.loop-k.invariant.0,
      ap (λ (v : Bool). take (c.loop-k.k + 1) (set c.loop-k.into c.loop-k.k v)) c.told_value-value.ensures ∙ m,
    )
