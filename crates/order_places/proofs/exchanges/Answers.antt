use Rattle.order_places.proofs.Exchanging.{neighbours, placed}
use Rattle.order_places.proofs.exchanges.Goals as goal

pub returns : goal.returns
returns c = record { found = neighbours; placed = placed }
