-- What is known when a question is asked, and what it says that a budget was spent on it, where folders are given.
use Rattle.std.specs.Prelude.{◌≡◌, ℕ, List, [], ◌∷◌, ◌++◌}
use Rattle.fs_semantics.specs.FileTree.{Path}
use Rattle.fs_semantics.specs.Programs.{Program}
use Rattle.fs_semantics.specs.Orders.{Told}
use Rattle.given_hosts.specs.Given.{IsDeterministicFrom, IsIdempotentFrom}
use Rattle.orders.specs.Relation.{Relation, comes}
use Rattle.commute_prune.specs.Keeping.{Keeps}
use Rattle.cnf.specs.Formulas.{Formula}
use Rattle.cnf.specs.declared.log.Step.{Step}
use Rattle.proof_check.specs.Refuted.{Refutation}
use Rattle.answering.specs.Answers.{UsesUp}
use Rattle.verdict.specs.declared.verdicts.Asked.{Asked}
use Rattle.verdict.specs.declared.verdicts.Asked.TheVariants as asked
use Rattle.given_verdict.specs.First.{IsProofFrom, IsSpentFrom}
use Rattle.given_verdict.specs.Second.{IsSecondProofFrom, IsSecondSpentFrom}
use Rattle.given_verdict.specs.Ends.{StatesEndFrom}

-- The formula states the question, and the log over it is a working one of just as many steps as the budget. The greatest u64 is
-- no budget.
abbrev pub IsSpentOnFrom : List Path → List Program → Relation → ℕ → Asked → Formula → List Step → Type 0
IsSpentOnFrom given es order budget asked.Deterministic f steps = IsSpentFrom given es order budget f steps
IsSpentOnFrom given es order budget asked.Idempotent f steps = IsSecondSpentFrom given es order budget f steps
IsSpentOnFrom given es order budget asked.Succeeds f steps = StatesEndFrom given es order f × UsesUp budget f steps

-- what is known once this question is asked
abbrev pub IsKnownBeforeFrom : List Path → List Program → Relation → Asked → Type 0
IsKnownBeforeFrom given es order asked.Deterministic = Unit {0}
IsKnownBeforeFrom given es order asked.Idempotent = IsDeterministicFrom given es (Told (comes order))
IsKnownBeforeFrom given es order asked.Succeeds = IsDeterministicFrom given es (Told (comes order))
    × IsIdempotentFrom given es (Told (comes order))

-- what was refuted to answer the first question: nothing where pruning keeps nothing, else one formula
abbrev pub IsOrderProofFrom : List Path → List Program → Relation → List Refutation → Type 0
IsOrderProofFrom given es order [] = Keeps es (Told (comes order)) []
IsOrderProofFrom given es order (v ∷ vs) = IsProofFrom given es order v.formula × (vs ≡ [])

-- what was refuted to answer the first two
pub record AreTwoProofsFrom (given : List Path) (es : List Program) (order : Relation) (proofs : List Refutation) : Type 0 where
  pub front : List Refutation
  pub last : Refutation
  pub are : proofs ≡ front ++ last ∷ []
  pub first : IsOrderProofFrom given es order front
  pub second : IsSecondProofFrom given es order last.formula

-- what was refuted before this question was asked, in the order asked
abbrev pub AreProofsBeforeFrom : List Path → List Program → Relation → Asked → List Refutation → Type 0
AreProofsBeforeFrom given es order asked.Deterministic proofs = proofs ≡ []
AreProofsBeforeFrom given es order asked.Idempotent proofs = IsOrderProofFrom given es order proofs
AreProofsBeforeFrom given es order asked.Succeeds proofs = AreTwoProofsFrom given es order proofs
