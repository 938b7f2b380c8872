use Rattle.std.proofs.Common.{map}
use Rattle.std.specs.Map.Iter.{deref_pair}
use Rattle.serde_json.specs.View.{members_view}
use Rattle.tree_text.specs.TreeText.{AreMembers, IsWithinLimits}
use Rattle.tree_text.proofs.reading.tree_in.Given as goal

-- the members so far are those of the tree
abbrev pub invariant-loop-key : goal.invariant-loop-key
invariant-loop-key l = AreMembers (members_view (map deref_pair l.yielded)) l.tree × IsWithinLimits l.tree
