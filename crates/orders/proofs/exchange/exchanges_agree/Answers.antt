use Rattle.fs_semantics.specs.Orders.{Told}
use Rattle.fs_semantics.proofs.Exchanges.{joined, agree}
use Rattle.orders.proofs.exchange.exchanges_agree.Goals as goal

pub returns : goal.returns
returns g c = λ n before tells h from to l m. agree (Told before) n tells h (joined (Told before) n from to l m) l
