-- What is answered to the first question, and what each answer says.
use Rattle.std.specs.Prelude.{◌≡◌, ◌≢◌, ◌⊎◌, ℕ, ◌+◌, ◌-◌, ◌^◌, List, [], length}
use Rattle.fs_semantics.specs.Programs.{Program}
use Rattle.fs_semantics.specs.Orders.{IsExchange, IsCounterexample}
use Rattle.commute_prune.specs.Keeping.{Keeps}
use Rattle.cnf.specs.Formulas.{Formula}
use Rattle.cnf.specs.declared.log.Step.{Step}
use Rattle.proof_check.specs.Refuted.{HasNoModel}
use Rattle.sat_solver.specs.Working.{IsWorking}
use Rattle.order_encode.specs.declared.witness.Witness.{Witness}
use Rattle.order_encode.specs.declared.witness.Witness.TheVariants as witness
use Rattle.determinism.specs.declared.first.Sure.TheVariants as sure
use Rattle.determinism.specs.declared.first.First.{First}
use Rattle.determinism.specs.declared.first.First.TheVariants as first
use Rattle.determinism.specs.Questions.{States, StatesKept, IsKeptDeterministic}

-- so many programs are pruned
abbrev pub IsPrunedCount : List Program → (ℕ → ℕ → Type 0) → ℕ → Type 0
IsPrunedCount es before n = (kept : List ℕ) × Keeps es before kept × (n + length kept ≡ length es)

-- Pruning keeps some programs. The formula has no model, and states the question of the kept graph where that graph is
-- deterministic, else of the whole one.
pub record IsProof (es : List Program) (before : ℕ → ℕ → Type 0) (f : Formula) : Type 0 where
  pub kept : List ℕ
  pub keeps : Keeps es before kept
  pub some : kept ≢ []
  pub states : (IsKeptDeterministic es before kept × StatesKept es before kept f)
      ⊎ ((IsKeptDeterministic es before kept → ⊥) × States es before f)
  pub no_model : HasNoModel f

-- Pruning keeps some programs. The formula states the question of the kept graph, or, where that graph isn't deterministic, of
-- the whole one, and the log over it is a working one of just as many steps as the budget. The greatest u64 is no budget.
pub record IsSpent (es : List Program) (before : ℕ → ℕ → Type 0) (budget : ℕ) (f : Formula) (steps : List Step) : Type 0 where
  pub kept : List ℕ
  pub keeps : Keeps es before kept
  pub some : kept ≢ []
  pub states : StatesKept es before kept f ⊎ ((IsKeptDeterministic es before kept → ⊥) × States es before f)
  pub working : IsWorking f steps
  pub all : length steps ≡ budget
  pub limited : budget ≢ 2 ^ 64 - 1

-- From the tree these allowed orders have different outcomes, and the second is the first with two free neighbours exchanged.
abbrev pub IsDifference : List Program → (ℕ → ℕ → Type 0) → Witness → Type 0
IsDifference es before (witness.Orders tree left right) = IsCounterexample es before tree left right × IsExchange before left right
IsDifference es before (witness.Twice tree order) = ⊥
IsDifference es before (witness.Ends tree order) = ⊥

-- how many programs pruning doesn't keep
abbrev pub pruned_in : First → ℕ
pruned_in (first.Sure pruned s) = pruned
pruned_in (first.Differs pruned w) = pruned
pruned_in (first.Spent pruned cnf log) = pruned

-- pruning alone answered
abbrev pub IsAlone : First → Type 0
IsAlone (first.Sure pruned sure.Pruned) = Unit {0}
IsAlone (first.Sure pruned (sure.Proved v)) = ⊥
IsAlone (first.Differs pruned w) = ⊥
IsAlone (first.Spent pruned cnf log) = ⊥

-- this holds, if the answer is that the programs are deterministic
abbrev pub IfSure : First → Type 0 → Type 0
IfSure (first.Sure pruned s) P = P
IfSure (first.Differs pruned w) P = Unit {0}
IfSure (first.Spent pruned cnf log) P = Unit {0}

-- a fact of the formula that was refuted, if one was
abbrev pub IfProved : First → (Formula → Type 0) → Type 0
IfProved (first.Sure pruned sure.Pruned) P = Unit {0}
IfProved (first.Sure pruned (sure.Proved v)) P = P v.formula
IfProved (first.Differs pruned w) P = Unit {0}
IfProved (first.Spent pruned cnf log) P = Unit {0}

-- a fact of the witness, if there is one
abbrev pub IfDiffers : First → (Witness → Type 0) → Type 0
IfDiffers (first.Sure pruned s) P = Unit {0}
IfDiffers (first.Differs pruned w) P = P w
IfDiffers (first.Spent pruned cnf log) P = Unit {0}

-- a fact of the formula and the log, if the budget was spent
abbrev pub IfSpent : First → (Formula → List Step → Type 0) → Type 0
IfSpent (first.Sure pruned s) P = Unit {0}
IfSpent (first.Differs pruned w) P = Unit {0}
IfSpent (first.Spent pruned cnf log) P = P cnf log.steps
