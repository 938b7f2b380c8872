-- What is answered to the first question, asked from the file trees in which given folders stand. Where folders are given the
-- formulas are about the graph with the guard in front, which lets a run begin only there.
use Rattle.std.specs.Prelude.{◌≡◌, ◌↔◌, ℕ, ◌-◌, List, [], drop}
use Rattle.fs_semantics.specs.FileTree.{Path}
use Rattle.fs_semantics.specs.Programs.{Program}
use Rattle.fs_semantics.specs.Orders.{Told, IsExchange}
use Rattle.given_hosts.specs.Given.{IsDeterministicFrom, IsCounterexampleFrom}
use Rattle.orders.specs.Relation.{Relation, comes}
use Rattle.commute_prune.specs.Keeping.{Keeps}
use Rattle.cnf.specs.Formulas.{Formula}
use Rattle.cnf.specs.declared.log.Step.{Step}
use Rattle.order_encode.specs.declared.witness.Witness.{Witness}
use Rattle.order_encode.specs.declared.witness.Witness.TheVariants as witness
use Rattle.determinism.specs.First.{IsPrunedCount, IsProof, IsSpent, pruned_in, IsAlone, IfSure, IfProved, IfDiffers, IfSpent}
use Rattle.determinism.specs.declared.first.First.{First}
use Rattle.determinism.specs.declared.first.First.TheVariants as first
use Rattle.given_verdict.specs.Graphs.{asked_programs, asked_order}

-- From the tree, in which the given folders stand, these allowed orders have different outcomes, and the second is the first with
-- two free neighbours exchanged.
abbrev pub IsDifferenceFrom : List Path → List Program → (ℕ → ℕ → Type 0) → Witness → Type 0
IsDifferenceFrom given es before (witness.Orders tree left right) = IsCounterexampleFrom given es before tree left right
    × IsExchange before left right
IsDifferenceFrom given es before (witness.Twice tree order) = ⊥
IsDifferenceFrom given es before (witness.Ends tree order) = ⊥

-- the formula was refuted, and states the question of the graph that is asked about
abbrev pub IsProofFrom : List Path → List Program → Relation → Formula → Type 0
IsProofFrom given es order f = IsProof (asked_programs given es) (Told (asked_order given order)) f

-- the budget was spent on the formula, which states that question
abbrev pub IsSpentFrom : List Path → List Program → Relation → ℕ → Formula → List Step → Type 0
IsSpentFrom given es order budget f steps = IsSpent (asked_programs given es) (Told (asked_order given order)) budget f steps

-- all that is said of the answer to the first question
pub record IsJudgedFrom (given : List Path) (es : List Program) (order : Relation) (budget : ℕ) (answered : First) : Type 0 where
  pub pruned : IsPrunedCount es (Told (comes order)) (pruned_in answered)
  pub alone : IsAlone answered ↔ Keeps es (Told (comes order)) []
  pub deterministic : IfSure answered (IsDeterministicFrom given es (Told (comes order)))
  pub proved : IfProved answered (IsProofFrom given es order)
  pub differs : IfDiffers answered (IsDifferenceFrom given es (Told (comes order)))
  pub spent : IfSpent answered (IsSpentFrom given es order budget)

-- ---- without the guard

-- the same tree, and each order without the first of its numbers
abbrev pub IsUnguarded : Witness → Witness → Type 0
IsUnguarded (witness.Orders tree left right) w = w ≡ witness.Orders tree (drop 1 left) (drop 1 right)
IsUnguarded (witness.Twice tree order) w = ⊥
IsUnguarded (witness.Ends tree order) w = ⊥

-- the same answer, with one program less that was pruned, and no guard in its orders
abbrev pub IsAnswerWithout : First → First → Type 0
IsAnswerWithout (first.Sure pruned s) a = a ≡ first.Sure (pruned - 1) s
IsAnswerWithout (first.Differs pruned w) a = (v : Witness) × IsUnguarded w v × (a ≡ first.Differs (pruned - 1) v)
IsAnswerWithout (first.Spent pruned cnf log) a = a ≡ first.Spent (pruned - 1) cnf log
