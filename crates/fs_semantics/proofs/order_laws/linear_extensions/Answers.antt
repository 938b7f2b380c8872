use Rattle.fs_semantics.specs.Orders.{Told}
use Rattle.fs_semantics.proofs.Commuting.{same_times}
use Rattle.fs_semantics.proofs.Ground.{unordered_allowed}
use Rattle.fs_semantics.proofs.order_laws.linear_extensions.Goals as goal

pub returns : goal.returns
returns c = record { alike = λ n before o p a b k. same_times n (Told before) o p a b k; unordered = unordered_allowed }
