use Rattle.std.proofs.Common.{◌≡◌, take}
use Rattle.assumed_models.proofs.edits.with_place.Given as goal

-- the places so far
abbrev pub invariant-loop-p : goal.invariant-loop-p
invariant-loop-p l = l.more ≡ take l.p-index l.p-items
