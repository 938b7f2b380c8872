use Rattle.std.proofs.Common.{◌≡◌, ◌<◌, length}
use Rattle.pp_value.specs.Texts.{lowered, is_part}
use Rattle.pp_value.specs.Hashes.{modulus, power_from, hash_from}
use Rattle.pp_value.proofs.WindowLaws.{Window}
use Rattle.pp_value.proofs.texts.is_part.Given as goal

abbrev pub invariant-loop-next : goal.invariant-loop-next
invariant-loop-next l =
    (is_part (lowered l.part) (lowered l.rest) ≡ is_part (lowered l.part) (lowered l.text)) × Window (lowered l.part) (lowered l.rest) (lowered l.ahead) l.front l.end
    × (l.front < modulus) × (l.end < modulus) × (l.power ≡ power_from 1 (lowered l.part)) × (l.sought ≡ hash_from 0 (lowered l.part))

abbrev pub decreases-loop-next : goal.decreases-loop-next
decreases-loop-next l = length l.ahead
