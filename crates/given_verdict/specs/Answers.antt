-- All that is said of a verdict from the trees in which given folders stand.
use Rattle.std.specs.Prelude.{◌↔◌, ℕ, List, []}
use Rattle.fs_semantics.specs.FileTree.{Path}
use Rattle.fs_semantics.specs.Programs.{Program}
use Rattle.fs_semantics.specs.Orders.{Told}
use Rattle.given_hosts.specs.Given.{IsDeterministicFrom, IsIdempotentFrom, SucceedsFrom}
use Rattle.orders.specs.Relation.{Relation, comes}
use Rattle.commute_prune.specs.Keeping.{Keeps}
use Rattle.determinism.specs.First.{IsPrunedCount}
use Rattle.verdict.specs.declared.verdicts.Verdict.{Verdict}
use Rattle.verdict.specs.Verdicts.{pruned_in, IsByPruning, IfByProof, IfDifferent, IfJudged, IfSame, IfChanged, IfFrom, IfNever, IfSpent, IfSpentAfter}
use Rattle.given_verdict.specs.First.{IsDifferenceFrom, IsProofFrom}
use Rattle.given_verdict.specs.Second.{IsSecondProofFrom, IsChangeFrom}
use Rattle.given_verdict.specs.Ends.{IsEndFrom, IsEndProofFrom}
use Rattle.given_verdict.specs.Verdicts.{IsSpentOnFrom, IsKnownBeforeFrom, AreProofsBeforeFrom}

-- What a verdict says of every file tree is said of those in which the given folders stand. Pruning is the same, whatever is given.
pub record IsVerdictFrom (given : List Path) (es : List Program) (order : Relation) (budget : ℕ) (judged : Verdict) : Type 0 where
  pub pruned : IsPrunedCount es (Told (comes order)) (pruned_in judged)
  pub differs : IfDifferent judged (IsDifferenceFrom given es (Told (comes order)))
  pub deterministic : IfJudged judged (λ s. IsDeterministicFrom given es (Told (comes order)))
  pub alone : IfJudged judged (λ s. IsByPruning s ↔ Keeps es (Told (comes order)) [])
  pub proved : IfJudged judged (λ s. IfByProof s (IsProofFrom given es order))
  pub idempotent : IfSame judged (λ f. IsIdempotentFrom given es (Told (comes order)))
  pub same : IfSame judged (IsSecondProofFrom given es order)
  pub changed : IfChanged judged (IsChangeFrom given es order)
  pub succeeds : IfFrom judged (λ w. SucceedsFrom given es (Told (comes order)))
  pub from : IfFrom judged (IsEndFrom given es order)
  pub fails : IfNever judged (λ f. SucceedsFrom given es (Told (comes order)) → ⊥)
  pub never : IfNever judged (IsEndProofFrom given es order)
  pub spent : IfSpent judged (IsSpentOnFrom given es order budget)
  pub known : IfSpentAfter judged (λ a proofs. IsKnownBeforeFrom given es order a)
  pub refuted : IfSpentAfter judged (AreProofsBeforeFrom given es order)
