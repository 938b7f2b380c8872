use Rattle.std.proofs.Common.{◌≡◌, ◌-◌, map}
use Rattle.proof_check.specs.Refuted.{refutation}
use Rattle.proof_check.specs.WordReading.{with_front, blocks_in}
use Rattle.proof_check.proofs.text.blocks.Given as goal

abbrev pub invariant-loop-i : goal.invariant-loop-i
invariant-loop-i l = with_front (map refutation l.found.items) (blocks_in (l.count - l.i) l.words) ≡ blocks_in l.count l.initial.words
