use Rattle.std.proofs.Common.{◌≡◌, take}
use Rattle.pp_data.proofs.data.Data.copy.Given as goal

abbrev pub invariant-loop-level : goal.invariant-loop-level
invariant-loop-level l = l.copies ≡ take l.level-index l.level-items
