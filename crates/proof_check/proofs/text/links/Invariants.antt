use Rattle.std.proofs.Common.{◌≡◌, length}
use Rattle.proof_check.specs.WordReading.{with_front, links_in}
use Rattle.proof_check.proofs.text.links.Given as goal

abbrev pub invariant-loop-chain : goal.invariant-loop-chain
invariant-loop-chain l = with_front l.chain (links_in l.vars l.words) ≡ links_in l.vars l.initial.words

abbrev pub decreases-loop-chain : goal.decreases-loop-chain
decreases-loop-chain l = length l.words
