use Rattle.verdict_report.proofs.NamedLaws.{are_places}
use Rattle.verdict_report.proofs.runs.push_again.Goals as goal

pub push_outcomes-requires : goal.push_outcomes-requires
push_outcomes-requires c = are_places c.args.named.now c.args.order.now c.requires
