use Rattle.std.proofs.Common.{◌≡◌, ◌<◌, length}
use Rattle.pp_value.specs.Texts.{lowered}
use Rattle.pp_value.specs.Hashes.{modulus, power_from}
use Rattle.pp_value.proofs.hashes.power_of.Given as goal

abbrev pub invariant-loop-more : goal.invariant-loop-more
invariant-loop-more l = (power_from l.power (lowered l.rest) ≡ power_from 1 (lowered l.text)) × (l.power < modulus)

abbrev pub decreases-loop-more : goal.decreases-loop-more
decreases-loop-more l = length l.rest
