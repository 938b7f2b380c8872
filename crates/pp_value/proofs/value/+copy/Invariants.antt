use Rattle.std.proofs.Common.{◌≡◌, [], drop}
use Rattle.pp_value.specs.Keys.{with_pairs}
use Rattle.pp_value.proofs.value.+copy.Given as goal

abbrev pub invariant-copy_pairs-loop-pair : goal.invariant-copy_pairs-loop-pair
invariant-copy_pairs-loop-pair l = with_pairs l.copies (drop l.pair-index l.pairs) ≡ with_pairs [] l.pairs
