use Rattle.std.proofs.Common.{◌≡◌, ◌<◌, length}
use Rattle.pp_value.specs.Texts.{lowered}
use Rattle.pp_value.specs.Hashes.{modulus, hash_from}
use Rattle.pp_value.proofs.hashes.hash_from.Given as goal

abbrev pub invariant-loop-byte : goal.invariant-loop-byte
invariant-loop-byte l = (hash_from l.end (lowered l.rest) ≡ hash_from l.hash (lowered l.text)) × (l.end < modulus)

abbrev pub decreases-loop-byte : goal.decreases-loop-byte
decreases-loop-byte l = length l.rest
