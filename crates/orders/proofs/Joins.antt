-- Exchanges of neighbours join any two linear extensions.
use Rattle.std.proofs.Common.{ℕ, List}
use Rattle.fs_semantics.specs.Orders.{IsLinearExtension}
use Rattle.fs_semantics.proofs.Exchanges.{Turned, same, turn, exchanged, joined}
use Rattle.orders.specs.Exchanges.{Joined, same as is_there, exchange}

module _ (before : ℕ → ℕ → Type 0) where
  -- exchanges from an allowed order on lead through allowed orders
  joined_by : (n : ℕ) {from to : List ℕ} → Turned before from to → IsLinearExtension n before from → Joined n before from to
  joined_by n same l = is_there l
  joined_by n (turn e t) l = exchange l e (joined_by n t (exchanged before n _ _ e l))

  -- exchanges of free neighbours lead from any linear extension to any other
  pub extensions_join : (n : ℕ) (from to : List ℕ) → IsLinearExtension n before from → IsLinearExtension n before to → Joined n before from to
  extensions_join n from to l m = joined_by n (joined before n from to l m) l
