use Rattle.verdict_report.proofs.NamedLaws.{are_places}
use Rattle.verdict_report.proofs.runs.push_run.Goals as goal

pub replay-requires : goal.replay-requires
replay-requires c = are_places c.args.named.now c.args.order.now c.requires
