use Rattle.std.proofs.Common.{◌≡◌, ◌++◌, drop}
use Rattle.settled_groups.specs.Groups.{in_turn}
use Rattle.apart_groups.proofs.testing.in_turn.Given as goal

-- the programs so far, and those of the groups that are left
abbrev pub invariant-loop-group : goal.invariant-loop-group
invariant-loop-group l = l.whole.items ++ in_turn (drop l.group-index l.groups) ≡ in_turn l.groups
