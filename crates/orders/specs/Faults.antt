-- What a fault carries.
use Rattle.std.specs.Prelude.{ℕ, List}
use Rattle.orders.specs.declared.order.OrderFault.{OrderFault}
use Rattle.orders.specs.declared.order.OrderFault.TheVariants.{Cycle, Memory}

-- where the fault is a cycle, this holds of its nodes
abbrev pub IfCycle : OrderFault → (List ℕ → Type 0) → Type 0
IfCycle (Cycle nodes) P = P nodes
IfCycle (Memory m) P = Unit {0}
