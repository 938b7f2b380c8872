use Rattle.order_extensions.proofs.Taking.{first_extension}
use Rattle.order_extensions.proofs.first_extensions.Goals as goal

pub returns : goal.returns
returns c = record { exist = first_extension }
