-- That an order has a first extension.
use Rattle.std.specs.Prelude.{ℕ, List, []}
use Rattle.fs_semantics.specs.Orders.{IsLinearExtension}
use Rattle.orders.specs.Relation.{Relation, Comes}
use Rattle.orders.specs.Extensions.{TakesLeast}

-- some linear extension takes at each step the least node that may come next
pub record HasFirstExtension (order : Relation) : Type 0 where
  pub first : List ℕ
  pub allowed : IsLinearExtension order.count (Comes order) first
  pub least : TakesLeast order.count (Comes order) [] first
