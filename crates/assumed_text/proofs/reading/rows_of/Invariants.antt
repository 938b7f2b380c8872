use Rattle.serde_json.specs.View.{members_view}
use Rattle.assumed_text.specs.Reading.{rows_of}
use Rattle.assumed_text.proofs.ReadLaws.{AreRead}
use Rattle.assumed_text.proofs.reading.rows_of.Given as goal

-- what was read, with what is still to be read
abbrev pub invariant-loop-key : goal.invariant-loop-key
invariant-loop-key l = AreRead l.rows l.key-iterator (rows_of (members_view l.members.entries))
