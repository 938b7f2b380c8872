use Rattle.std.proofs.Common.{◌≡◌, ◌++◌, take}
use Rattle.std.specs.List.{flat_map}
use Rattle.pp_print.specs.Statements.{item_words}
use Rattle.pp_print.proofs.item.items.Given as goal

abbrev pub invariant-loop-y : goal.invariant-loop-y
invariant-loop-y l = l.words ≡ l.initial.words ++ flat_map item_words (take l.y-index l.all)
