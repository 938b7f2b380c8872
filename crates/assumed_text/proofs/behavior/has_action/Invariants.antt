use Rattle.std.proofs.Common.{◌≡◌}
use Rattle.serde_json.specs.View.{members_view}
use Rattle.assumed_text.specs.Reading.{has_action}
use Rattle.assumed_text.proofs.behavior.has_action.Given as goal

-- it holds of the members that are left just where it holds of all
abbrev pub invariant-loop-key : goal.invariant-loop-key
invariant-loop-key l = has_action (members_view l.key-iterator) ≡ has_action (members_view l.members.entries)
