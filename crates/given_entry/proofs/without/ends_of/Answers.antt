use Rattle.given_entry.proofs.WithoutLaws.{from_is}
use Rattle.given_entry.proofs.without.ends_of.Goals as goal

pub returns-in_ok-run_of-in-From : goal.returns-in_ok-run_of-in-From
returns-in_ok-run_of-in-From c = from_is c.args.order.now c.args.end c.in-From.witness c.in_ok-run_of-in-From.field-0 c.in-From.is c.in_ok-run_of-in-From.ensures
