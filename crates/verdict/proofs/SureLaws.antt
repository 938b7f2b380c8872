-- Why a graph is deterministic, as it is said of the answer to the first question.
use Rattle.std.proofs.Common.{ℕ, List, []}
use Rattle.std.specs.Prelude.{◌↔◌}
use Rattle.fs_semantics.specs.Programs.{Program}
use Rattle.fs_semantics.specs.Orders.{Told}
use Rattle.orders.specs.Relation.{Relation, comes}
use Rattle.commute_prune.specs.Keeping.{Keeps}
use Rattle.cnf.specs.Formulas.{Formula}
use Rattle.cnf.specs.declared.log.Log.{Log}
use Rattle.order_encode.specs.declared.witness.Witness.{Witness}
use Rattle.determinism.specs.First.{IsProof, IsAlone, IfProved}
use Rattle.determinism.specs.Answers.{IsJudged}
use Rattle.determinism.specs.declared.first.First.TheVariants as first
use Rattle.determinism.specs.declared.first.Sure.{Sure}
use Rattle.determinism.specs.declared.first.Sure.TheVariants as sure
use Rattle.verdict.specs.Verdicts.{IsByPruning, IfByProof}
use Rattle.verdict.specs.Settled.{IsSettled, IsUnsettled}

-- where pruning alone answers just when it keeps nothing, it is by pruning just then
pub alone_by : (es : List Program) (before : ℕ → ℕ → Type 0) (n : ℕ) (s : Sure) → IsAlone (first.Sure n s) ↔ Keeps es before [] → IsByPruning s ↔ Keeps es before []
alone_by es before n sure.Pruned h = h
alone_by es before n (sure.Proved v) h = h

-- what holds of the formula that was refuted holds of it where it is by proof
pub proved_by : (n : ℕ) (s : Sure) (P : Formula → Type 0) → IfProved (first.Sure n s) P → IfByProof s P
proved_by n sure.Pruned P h = tt
proved_by n (sure.Proved v) P h = h

module _ (es : List Program) (order : Relation) (budget : ℕ) where
  -- a graph that was found to be deterministic is settled
  pub settled : (n : ℕ) (s : Sure) → IsJudged es order budget (first.Sure n s) → IsSettled es order (record { pruned = n; sure = s })
  settled n s is = record {
    pruned = is.pruned;
    deterministic = is.deterministic;
    alone = alone_by es (Told (comes order)) n s is.alone;
    proved = proved_by n s (IsProof es (Told (comes order))) is.proved;
  }

  -- a graph of which two orders end differently is unsettled
  pub differs : (n : ℕ) (w : Witness) → IsJudged es order budget (first.Differs n w) → IsUnsettled es order budget (first.Differs n w)
  differs n w is = (is.pruned, is.differs)

  -- and so is one on which the budget was spent
  pub spent : (n : ℕ) (f : Formula) (log : Log) → IsJudged es order budget (first.Spent n f log) → IsUnsettled es order budget (first.Spent n f log)
  spent n f log is = (is.pruned, is.spent)
