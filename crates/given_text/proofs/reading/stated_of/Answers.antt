use Rattle.std.proofs.Common.{subst}
use Rattle.serde_json.specs.View.{view}
use Rattle.rh_base.specs.Reading.{Gives}
use Rattle.given_text.proofs.ReadLaws.{stated_so}
use Rattle.given_text.proofs.reading.stated_of.Goals as goal

pub returns-in-Some-clause-stated : goal.returns-in-Some-clause-stated
returns-in-Some-clause-stated c =
    subst (Gives (λ g. g) c.stated_with.result) (stated_so (view c.args.json.now) c.in-Some.members.now.entries c.len.result c.in-Some.ensures c.len.ensures.len) c.stated_with.ensures.stated
