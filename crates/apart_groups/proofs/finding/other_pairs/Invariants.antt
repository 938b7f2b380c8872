use Rattle.std.proofs.Common.{◌≡◌, ◌++◌, drop}
use Rattle.apart_groups.specs.Groups.{other_pairs}
use Rattle.apart_groups.proofs.finding.other_pairs.Given as goal

abbrev pub invariant-loop-pair : goal.invariant-loop-pair
invariant-loop-pair l = l.others ++ other_pairs l.second (drop l.pair-index l.pairs) ≡ other_pairs l.second l.pairs
