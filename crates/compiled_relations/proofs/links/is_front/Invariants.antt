use Rattle.std.proofs.Common.{◌≡◌, length}
use Rattle.fs_lang.specs.Fronts.{is_front}
use Rattle.compiled_relations.proofs.links.is_front.Given as goal

abbrev pub invariant-loop-s : goal.invariant-loop-s
invariant-loop-s l = is_front l.front l.rest ≡ is_front l.p l.q

abbrev pub decreases-loop-s : goal.decreases-loop-s
decreases-loop-s l = length l.front
