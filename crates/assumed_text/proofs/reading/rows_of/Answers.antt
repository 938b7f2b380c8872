use Rattle.std.specs.Map.Iter.{deref_pair}
use Rattle.std.proofs.lemmas.Map.Iter.{rest_more}
use Rattle.serde_json.specs.View.{members_view}
use Rattle.assumed_text.specs.Reading.{rows_of}
use Rattle.assumed_text.proofs.ReadLaws.{next_row}
use Rattle.assumed_text.proofs.reading.rows_of.Goals as goal

pub loop-key-preserved : goal.loop-key-preserved
loop-key-preserved c =
    let next = rest_more deref_pair c.loop-key.key-iterator c.next.new.self c.next.result (c.in-Some.key, c.in-Some.json) c.in-Some.is c.next.ensures.steps in
    next_row c.loop-key.rows c.push.new.self c.loop-key.key-iterator c.next.new.self c.in-Some.key.now c.in-Some.json.now c.as_str.result.now c.in_ok-assumption_of.field-0
    (rows_of (members_view c.args.members.now.entries)) next c.as_str.ensures.value c.in_ok-assumption_of.ensures.assumption c.in_ok-assumption_of.ensures.proper c.in_ok-push.ensures.ok c.loop-key.invariant
