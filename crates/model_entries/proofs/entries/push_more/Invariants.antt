use Rattle.std.proofs.Common.{◌≡◌, ◌++◌, drop}
use Rattle.model_semantics.specs.Models.{more_times}
use Rattle.model_entries.proofs.entries.push_more.Given as goal

-- the text so far, with what is still to be added
abbrev pub invariant-loop-item : goal.invariant-loop-item
invariant-loop-item l = l.into ++ more_times (drop l.item-index l.items) ≡ l.initial.into ++ more_times l.items
