-- That a graph is known to be deterministic from the trees in which given folders stand, and that it isn't.
use Rattle.std.specs.Prelude.{◌↔◌, ℕ, ◌-◌, List, []}
use Rattle.fs_semantics.specs.FileTree.{Path}
use Rattle.fs_semantics.specs.Programs.{Program}
use Rattle.fs_semantics.specs.Orders.{Told}
use Rattle.given_hosts.specs.Given.{IsDeterministicFrom}
use Rattle.orders.specs.Relation.{Relation, comes}
use Rattle.commute_prune.specs.Keeping.{Keeps}
use Rattle.determinism.specs.First.{IsPrunedCount}
use Rattle.determinism.specs.declared.first.First.{First}
use Rattle.determinism.specs.declared.first.First.TheVariants as first
use Rattle.verdict.specs.declared.verdicts.Settled.{Settled}
use Rattle.verdict.specs.Verdicts.{IsByPruning, IfByProof}
use Rattle.given_verdict.specs.First.{IsDifferenceFrom, IsProofFrom, IsSpentFrom}

-- The graph is deterministic from the trees in which the given folders stand, for this reason: pruning keeps nothing, or a formula that
-- states the question of order has no model.
pub record IsSettledFrom (given : List Path) (es : List Program) (order : Relation) (s : Settled) : Type 0 where
  pub pruned : IsPrunedCount es (Told (comes order)) s.pruned
  pub deterministic : IsDeterministicFrom given es (Told (comes order))
  pub alone : IsByPruning s.sure ↔ Keeps es (Told (comes order)) []
  pub proved : IfByProof s.sure (IsProofFrom given es order)

-- The graph isn't known to be so: from such a tree two orders have different outcomes, or the budget was spent on the question of order.
abbrev pub IsUnsettledFrom : List Path → List Program → Relation → ℕ → First → Type 0
IsUnsettledFrom given es order budget (first.Sure pruned s) = ⊥
IsUnsettledFrom given es order budget (first.Differs pruned w) = IsPrunedCount es (Told (comes order)) pruned
    × IsDifferenceFrom given es (Told (comes order)) w
IsUnsettledFrom given es order budget (first.Spent pruned cnf log) = IsPrunedCount es (Told (comes order)) pruned
    × IsSpentFrom given es order budget cnf log.steps

-- the same without the guard, which was pruned
abbrev pub without : Settled → Settled
without s = record s { pruned = s.pruned - 1 }
