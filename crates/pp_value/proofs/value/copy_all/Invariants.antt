use Rattle.std.proofs.Common.{◌≡◌, take}
use Rattle.pp_value.proofs.value.copy_all.Given as goal

abbrev pub invariant-loop-item : goal.invariant-loop-item
invariant-loop-item l = l.copies ≡ take l.item-index l.items
