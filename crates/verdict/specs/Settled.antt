-- That a graph is known to be deterministic, and that it isn't.
use Rattle.std.specs.Prelude.{◌↔◌, ℕ, List, []}
use Rattle.fs_semantics.specs.Programs.{Program}
use Rattle.fs_semantics.specs.Orders.{Told, IsDeterministic}
use Rattle.orders.specs.Relation.{Relation, comes}
use Rattle.commute_prune.specs.Keeping.{Keeps}
use Rattle.determinism.specs.First.{IsPrunedCount, IsProof, IsSpent, IsDifference}
use Rattle.determinism.specs.declared.first.First.{First}
use Rattle.determinism.specs.declared.first.First.TheVariants as first
use Rattle.verdict.specs.declared.verdicts.Settled.{Settled}
use Rattle.verdict.specs.Verdicts.{IsByPruning, IfByProof}

-- The graph is deterministic, for this reason: pruning keeps nothing, or a formula that states the question of order has no model.
pub record IsSettled (es : List Program) (order : Relation) (s : Settled) : Type 0 where
  pub pruned : IsPrunedCount es (Told (comes order)) s.pruned
  pub deterministic : IsDeterministic es (Told (comes order))
  pub alone : IsByPruning s.sure ↔ Keeps es (Told (comes order)) []
  pub proved : IfByProof s.sure (IsProof es (Told (comes order)))

-- The graph isn't known to be deterministic: two orders have different outcomes, or the budget was spent on the question of order.
abbrev pub IsUnsettled : List Program → Relation → ℕ → First → Type 0
IsUnsettled es order budget (first.Sure pruned s) = ⊥
IsUnsettled es order budget (first.Differs pruned w) = IsPrunedCount es (Told (comes order)) pruned
    × IsDifference es (Told (comes order)) w
IsUnsettled es order budget (first.Spent pruned cnf log) = IsPrunedCount es (Told (comes order)) pruned
    × IsSpent es (Told (comes order)) budget cnf log.steps
