-- What is said of each verdict from the trees in which given folders stand.
use Rattle.std.proofs.Common.{◌≡◌, ℕ, List, [], ◌∷◌, ◌++◌, refl, sym, subst}
use Rattle.fs_semantics.specs.FileTree.{Path}
use Rattle.fs_semantics.specs.Programs.{Program}
use Rattle.fs_semantics.specs.Orders.{Told}
use Rattle.given_hosts.specs.Given.{IsIdempotentFrom, SucceedsFrom}
use Rattle.orders.specs.Relation.{Relation, comes}
use Rattle.cnf.specs.Formulas.{Formula}
use Rattle.cnf.specs.declared.log.Log.{Log}
use Rattle.proof_check.specs.Refuted.{Refutation}
use Rattle.answering.specs.Answers.{UsesUp}
use Rattle.order_encode.specs.declared.witness.Witness.{Witness}
use Rattle.determinism.specs.First.{IsPrunedCount}
use Rattle.determinism.specs.declared.first.First.TheVariants as first
use Rattle.determinism.specs.declared.first.Sure.{Sure}
use Rattle.determinism.specs.declared.first.Sure.TheVariants as sure
use Rattle.verdict.specs.declared.verdicts.Asked.{Asked}
use Rattle.verdict.specs.declared.verdicts.Asked.TheVariants as asked
use Rattle.verdict.specs.declared.verdicts.Second.{Second}
use Rattle.verdict.specs.declared.verdicts.Second.TheVariants as second
use Rattle.verdict.specs.declared.verdicts.Ends.{Ends}
use Rattle.verdict.specs.declared.verdicts.Ends.TheVariants as ends
use Rattle.verdict.specs.declared.verdicts.Verdict.TheVariants as verdict
use Rattle.verdict.specs.Verdicts.{proofs_in, IfSame, IfChanged, IfFrom, IfNever}
use Rattle.verdict.proofs.SureLaws.{alone_by, proved_by}
use Rattle.given_verdict.specs.First.{IsProofFrom, IsJudgedFrom}
use Rattle.given_verdict.specs.Second.{IsSecondProofFrom, IsChangeFrom, IsSecondSpentFrom}
use Rattle.given_verdict.specs.Ends.{StatesEndFrom, IsEndProofFrom, IsEndFrom}
use Rattle.given_verdict.specs.Verdicts.{IsSpentOnFrom, IsKnownBeforeFrom, IsOrderProofFrom, AreProofsBeforeFrom}
use Rattle.given_verdict.specs.Answers.{IsVerdictFrom}

module _ (given : List Path) (es : List Program) (order : Relation) (budget : ℕ) where
  -- ---- each kind of verdict, with the fields that say nothing of it

  -- two orders that end differently make a verdict
  pub different : (n : ℕ) (w : Witness) → IsJudgedFrom given es order budget (first.Differs n w) → IsVerdictFrom given es order budget (verdict.NotDeterministic n w)
  different n w is = record {
    pruned = is.pruned;
    differs = is.differs;
    deterministic = tt;
    alone = tt;
    proved = tt;
    idempotent = tt;
    same = tt;
    changed = tt;
    succeeds = tt;
    from = tt;
    fails = tt;
    never = tt;
    spent = tt;
    known = tt;
    refuted = tt;
  }

  -- a budget that is spent on a question makes one, with what is known and what was refuted before
  spent_on : (n : ℕ) (a : Asked) (f : Formula) (log : Log) (proofs : List Refutation) → IsPrunedCount es (Told (comes order)) n → IsSpentOnFrom given es order budget a f log.steps → IsKnownBeforeFrom given es order a → AreProofsBeforeFrom given es order a proofs
      → IsVerdictFrom given es order budget (verdict.Spent n a f log proofs)
  spent_on n a f log proofs pruned spent known refuted = record {
    pruned = pruned;
    differs = tt;
    deterministic = tt;
    alone = tt;
    proved = tt;
    idempotent = tt;
    same = tt;
    changed = tt;
    succeeds = tt;
    from = tt;
    fails = tt;
    never = tt;
    spent = spent;
    known = known;
    refuted = refuted;
  }

  -- answers to all three questions make one
  judged : (n : ℕ) (s : Sure) (again : Second) (end : Ends) → IsJudgedFrom given es order budget (first.Sure n s) → IfSame (verdict.Judged n s again end) (λ f. IsIdempotentFrom given es (Told (comes order))) → IfSame (verdict.Judged n s again end) (IsSecondProofFrom given es order)
      → IfChanged (verdict.Judged n s again end) (IsChangeFrom given es order) → IfFrom (verdict.Judged n s again end) (λ w. SucceedsFrom given es (Told (comes order))) → IfFrom (verdict.Judged n s again end) (IsEndFrom given es order)
      → IfNever (verdict.Judged n s again end) (λ f. SucceedsFrom given es (Told (comes order)) → ⊥) → IfNever (verdict.Judged n s again end) (IsEndProofFrom given es order) → IsVerdictFrom given es order budget (verdict.Judged n s again end)
  judged n s again end is idempotent same changed succeeds from fails never = record {
    pruned = is.pruned;
    differs = tt;
    deterministic = is.deterministic;
    alone = alone_by es (Told (comes order)) n s is.alone;
    proved = proved_by n s (IsProofFrom given es order) is.proved;
    idempotent = idempotent;
    same = same;
    changed = changed;
    succeeds = succeeds;
    from = from;
    fails = fails;
    never = never;
    spent = tt;
    known = tt;
    refuted = tt;
  }

  -- ---- the verdicts

  -- a budget that is spent on the first question makes a verdict
  pub spent_first : (n : ℕ) (f : Formula) (log : Log) (proofs : List Refutation) → proofs ≡ [] → IsJudgedFrom given es order budget (first.Spent n f log)
      → IsVerdictFrom given es order budget (verdict.Spent n asked.Deterministic f log proofs)
  spent_first n f log proofs none is = spent_on n asked.Deterministic f log proofs is.pruned is.spent tt none

  -- what the first answer refuted is a proof of it
  order_proof : (n : ℕ) (s : Sure) → IsJudgedFrom given es order budget (first.Sure n s) → IsOrderProofFrom given es order (proofs_in s)
  order_proof n sure.Pruned is = is.alone.0 tt
  order_proof n (sure.Proved v) is = (is.proved, refl)

  module _ (n : ℕ) (s : Sure) (is : IsJudgedFrom given es order budget (first.Sure n s)) where
    -- a budget that is spent on the second question makes a verdict
    pub spent_second : (f : Formula) (log : Log) (proofs : List Refutation) → proofs ≡ proofs_in s → IsSecondSpentFrom given es order budget f log.steps
        → IsVerdictFrom given es order budget (verdict.Spent n asked.Idempotent f log proofs)
    spent_second f log proofs are spent = spent_on n asked.Idempotent f log proofs is.pruned spent is.deterministic (subst (IsOrderProofFrom given es order) (sym are) (order_proof n s is))

    -- a budget that is spent on the last question makes one
    pub spent_last : (v : Refutation) (f : Formula) (log : Log) (proofs : List Refutation) → proofs ≡ proofs_in s ++ v ∷ [] → IsIdempotentFrom given es (Told (comes order)) → IsSecondProofFrom given es order v.formula
        → StatesEndFrom given es order f → UsesUp budget f log.steps → IsVerdictFrom given es order budget (verdict.Spent n asked.Succeeds f log proofs)
    spent_last v f log proofs are again same states uses =
        spent_on n asked.Succeeds f log proofs is.pruned (states, uses) (is.deterministic, again) record { front = proofs_in s; last = v; are = are; first = order_proof n s is; second = same }

    -- it makes one that no second run changes anything and the graph succeeds
    pub same_from : (v : Refutation) (w : Witness) → IsIdempotentFrom given es (Told (comes order)) → IsSecondProofFrom given es order v.formula → SucceedsFrom given es (Told (comes order)) → IsEndFrom given es order w
        → IsVerdictFrom given es order budget (verdict.Judged n s (second.Same v) (ends.From w))
    same_from v w again same succeeds end = judged n s (second.Same v) (ends.From w) is again same tt succeeds end tt tt

    -- it makes one that no second run changes anything and the graph never succeeds
    pub same_never : (v u : Refutation) → IsIdempotentFrom given es (Told (comes order)) → IsSecondProofFrom given es order v.formula → (SucceedsFrom given es (Told (comes order)) → ⊥) → IsEndProofFrom given es order u.formula
        → IsVerdictFrom given es order budget (verdict.Judged n s (second.Same v) (ends.Never u))
    same_never v u again same fails end = judged n s (second.Same v) (ends.Never u) is again same tt tt tt fails end

    -- it makes one that a second run changes something and the graph succeeds
    pub changed_from : (w end : Witness) → IsChangeFrom given es order w → SucceedsFrom given es (Told (comes order)) → IsEndFrom given es order end
        → IsVerdictFrom given es order budget (verdict.Judged n s (second.Differs w) (ends.From end))
    changed_from w end changed succeeds from = judged n s (second.Differs w) (ends.From end) is tt tt changed succeeds from tt tt
