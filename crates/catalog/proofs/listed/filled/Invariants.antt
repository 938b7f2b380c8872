use Rattle.std.proofs.Common.{◌≡◌, drop}
use Rattle.catalog.specs.Adding.{with_all_lacking}
use Rattle.catalog.proofs.listed.filled.Given as goal

abbrev pub invariant-loop-pair : goal.invariant-loop-pair
invariant-loop-pair l = with_all_lacking l.whole (drop l.pair-index l.pairs) ≡ with_all_lacking l.attributes l.pairs
