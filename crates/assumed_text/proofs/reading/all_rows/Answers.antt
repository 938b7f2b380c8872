use Rattle.std.proofs.Common.{subst}
use Rattle.serde_json.specs.View.{view}
use Rattle.rh_base.specs.Reading.{Gives}
use Rattle.assumed_text.proofs.ReadLaws.{rows_so}
use Rattle.assumed_text.proofs.reading.all_rows.Goals as goal

pub returns-in-Some-clause-rows : goal.returns-in-Some-clause-rows
returns-in-Some-clause-rows c =
    subst (Gives (λ rows. rows) c.rows_with.result) (rows_so (view c.args.json.now) c.in-Some.members.now.entries c.len.result c.in-Some.ensures c.len.ensures.len) c.rows_with.ensures.rows
