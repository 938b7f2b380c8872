use Rattle.order_text.proofs.OrderLaws.{one}
use Rattle.order_text.proofs.reading.one_order.Goals as goal

pub returns : goal.returns
returns c = one
