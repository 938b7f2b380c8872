use Rattle.std.proofs.Common.{◌≡◌, drop}
use Rattle.pp_value.specs.Keys.{with_pairs}
use Rattle.pp_value.proofs.operations.merged.Given as goal

abbrev pub invariant-loop-pair : goal.invariant-loop-pair
invariant-loop-pair l = with_pairs l.pairs (drop l.pair-index l.right) ≡ with_pairs l.initial.pairs l.right
