use Rattle.fs_semantics.specs.Orders.{Told}
use Rattle.graph_semantics.proofs.AllowedLaws.{allowed}
use Rattle.graph_semantics.proofs.allowed_orders.Goals as goal

pub returns : goal.returns
returns c = λ k plain before test g tells o. allowed k plain (Told before) test g tells o
