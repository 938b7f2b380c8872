use Rattle.std.proofs.Common.{◌≡◌, ℕ, ◌<◌, Bool, ◌&&◌, length, drop}
use Rattle.bool_circuit.specs.Gates.{wire_value, input_count, Grows}
use Rattle.bool_circuit.specs.Agreement.{agreement}
use Rattle.bool_circuit.proofs.circuit.Circuit.equal.Given as goal

abbrev pub invariant-loop-i : goal.invariant-loop-i
invariant-loop-i l = record {
  wire : l.all.0 < length l.self;
  grows : Grows l.fn.self l.self;
  count : input_count l.self ≡ input_count l.fn.self;
  so_far : (inputs : ℕ → Bool) → (wire_value l.self inputs l.all.0 && agreement (wire_value l.fn.self inputs) (drop l.i l.a) (drop l.i l.b)) ≡ agreement (wire_value l.fn.self inputs) l.a l.b;
}
