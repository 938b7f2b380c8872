use Rattle.std.proofs.Common.{◌-◌, ◌+◌, List, length}
use Rattle.catalog_semantics.specs.declared.state.Holding.{Holding}
use Rattle.catalog.specs.Members.{AreRows}
use Rattle.catalog.proofs.held.grow.Given as goal

abbrev pub decreases-loop-alloc : goal.decreases-loop-alloc
decreases-loop-alloc l = l.outer + 1 - length l.rows.items

abbrev pub invariant-loop-alloc : goal.invariant-loop-alloc
invariant-loop-alloc l = (holdings : List Holding) → AreRows l.fn.rows.items holdings → AreRows l.rows.items holdings
