-- What is answered to the question which arrows are missing, and what each answer says.
use Rattle.std.specs.Prelude.{◌≡◌, ◌≢◌, ◌↔◌, ℕ, List, []}
use Rattle.fs_semantics.specs.Programs.{Program}
use Rattle.fs_semantics.specs.Orders.{Told, IsDeterministic}
use Rattle.orders.specs.Relation.{Relation, comes}
use Rattle.cnf.specs.Formulas.{Formula}
use Rattle.cnf.specs.declared.log.Step.{Step}
use Rattle.determinism.specs.First.{IsSpent}
use Rattle.repair.specs.Arrows.{CanBeAdded, IsOrderWith}
use Rattle.repair.specs.Repairs.{Repairs, AreNeeded, PointRight}
use Rattle.repair.specs.declared.repaired.Repaired.{Repaired}
use Rattle.repair.specs.declared.repaired.Repaired.TheVariants as repaired

-- the arrows that the answer has
abbrev pub added_in : Repaired → List (ℕ × ℕ)
added_in (repaired.Done added) = added
added_in (repaired.Spent added cnf log) = added

-- a fact of the arrows, if these are all
abbrev pub IfDone : Repaired → (List (ℕ × ℕ) → Type 0) → Type 0
IfDone (repaired.Done added) P = P added
IfDone (repaired.Spent added cnf log) P = Unit {0}

-- a fact of the arrows, the formula and the log, if the budget was spent
abbrev pub IfSpent : Repaired → (List (ℕ × ℕ) → Formula → List Step → Type 0) → Type 0
IfSpent (repaired.Done added) P = Unit {0}
IfSpent (repaired.Spent added cnf log) P = P added cnf log.steps

-- the budget was spent on the question whether the graph with these arrows is deterministic
abbrev pub IsSpentWith : List Program → Relation → ℕ → List (ℕ × ℕ) → Formula → List Step → Type 0
IsSpentWith es order budget arrows f steps = (made : Relation) × IsOrderWith order arrows made
    × IsSpent es (Told (comes made)) budget f steps

-- all that is said of the answer
pub record IsRepaired (es : List Program) (order : Relation) (budget : ℕ) (answered : Repaired) : Type 0 where
  pub added : CanBeAdded order (added_in answered)
  pub repairs : IfDone answered (Repairs es order)
  pub needed : IfDone answered (AreNeeded es order)
  pub right : IfDone answered (λ arrows. arrows ≢ [] → PointRight es order arrows)
  pub nothing : IfDone answered (λ arrows. (arrows ≡ []) ↔ IsDeterministic es (Told (comes order)))
  pub spent : IfSpent answered (IsSpentWith es order budget)
