use Rattle.std.proofs.Common.{◌≡◌, drop}
use Rattle.model_semantics.specs.Attributes.{are_filled}
use Rattle.model_attributes.proofs.fitting.are_filled.Given as goal

abbrev pub invariant-loop-pair : goal.invariant-loop-pair
invariant-loop-pair l = are_filled (drop l.pair-index l.pairs) ≡ are_filled l.pairs
