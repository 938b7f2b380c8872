use Rattle.std.proofs.Common.{◌≡◌}
use Rattle.serde_json.specs.View.{members_view}
use Rattle.assumed_text.specs.Reading.{has_only_parts}
use Rattle.assumed_text.proofs.behavior.has_only_parts.Given as goal

-- it holds of the members that are left just where it holds of all
abbrev pub invariant-loop-key : goal.invariant-loop-key
invariant-loop-key l = has_only_parts (members_view l.key-iterator) ≡ has_only_parts (members_view l.members.entries)
