use Rattle.fs_semantics.specs.Orders.{Told}
use Rattle.orders.specs.Paths.{Path}
use Rattle.orders.proofs.Joins.{extensions_join}
use Rattle.orders.proofs.exchange.exchanges_join.Goals as goal

pub returns : goal.returns
returns c = record {
  joined = λ n before from to l m. extensions_join (Told before) n from to l m;
  along_paths = λ n edges from to l m. extensions_join (Path edges) n from to l m;
}
