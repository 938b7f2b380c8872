use Rattle.fs_semantics.specs.Orders.{Told}
use Rattle.fs_semantics.proofs.Exchanges.{neighbours_enough, free_enough, one_exchange}
use Rattle.fs_semantics.proofs.order_laws.neighbours.Goals as goal

pub returns : goal.returns
returns c = record {
  enough = λ es before agree. neighbours_enough (Told before) es agree;
  free = λ es before proper commute. free_enough (Told before) es proper commute;
  exchange = λ es before t o p differ. one_exchange (Told before) es t o p differ;
}
