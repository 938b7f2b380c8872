use Rattle.std.specs.Map.Iter.{deref_pair}
use Rattle.std.proofs.lemmas.Map.Iter.{rest_more}
use Rattle.serde_json.specs.View.{members_view}
use Rattle.pkg_listing.specs.Reading.{packages_of}
use Rattle.pkg_listing.proofs.FitLaws.{all_fit}
use Rattle.pkg_listing.proofs.ReadLaws.{next_read, all_read}
use Rattle.pkg_listing.proofs.reading.packages_of.Goals as goal

pub loop-name-preserved : goal.loop-name-preserved
loop-name-preserved c =
    let next = rest_more deref_pair c.loop-name.name-iterator c.next.new.self c.next.result (c.in-Some.name, c.in-Some.json) c.in-Some.is c.next.ensures.steps in
    next_read c.args.version c.loop-name.packages c.put_package.new.packages c.loop-name.name-iterator c.next.new.self c.in-Some.name.now c.in-Some.json.now c.as_str.result.now
    (packages_of c.args.version (members_view c.args.members.now.entries)) next c.as_str.ensures.value c.in_ok-put_package.ensures.ok c.loop-name.invariant

pub returns-clause-fit : goal.returns-clause-fit
returns-clause-fit c =
    all_fit c.args.version c.args.members.now.entries c.loop-name.packages c.iter-name-items.ensures.ordered
    (all_read c.args.version c.loop-name.packages c.loop-name.name-iterator (packages_of c.args.version (members_view c.args.members.now.entries)) c.in-None.ensures.steps.0 c.loop-name.invariant)
    c.loop-name.invariant.proper
