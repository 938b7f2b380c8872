use Rattle.std.proofs.Common.{subst}
use Rattle.given_entry.specs.Answers.{HasOrders}
use Rattle.given_entry.proofs.WithoutLaws.{fails_are}
use Rattle.given_entry.proofs.without.ensured_without.Goals as goal

pub ends_of-requires : goal.ends_of-requires
ends_of-requires c = subst HasOrders c.in-Holds.is c.requires

pub returns-in_ok-witness-in-Fails : goal.returns-in_ok-witness-in-Fails
returns-in_ok-witness-in-Fails c =
    fails_are c.args.order.now c.args.answered c.in-Fails.settled c.settled_without-in-Fails.result c.in-Fails.witness c.in_ok-witness-in-Fails.witness c.in-Fails.is c.settled_without-in-Fails.ensures
    c.in_ok-witness-in-Fails.ensures
