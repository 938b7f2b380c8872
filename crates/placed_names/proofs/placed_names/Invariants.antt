use Rattle.std.proofs.Common.{take}
use Rattle.placed_names.specs.Placed.{AreNamesAt}
use Rattle.placed_names.proofs.placed_names.Given as goal

-- the names so far
abbrev pub invariant-loop-place : goal.invariant-loop-place
invariant-loop-place l = AreNamesAt l.text l.catalog (take l.place-index l.places) l.names
