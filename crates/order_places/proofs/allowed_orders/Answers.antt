use Rattle.order_places.proofs.Following.{in_order_exactly, order_is_long}
use Rattle.order_places.proofs.allowed_orders.Goals as goal

pub returns : goal.returns
returns c = record { exact = in_order_exactly; long = order_is_long }
