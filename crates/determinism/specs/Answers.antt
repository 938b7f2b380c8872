-- What comes of a question of order, and what is known when the first question has been answered.
use Rattle.std.specs.Prelude.{◌≢◌, ◌⊎◌, ◌↔◌, ℕ, ◌-◌, ◌^◌, List, []}
use Rattle.fs_semantics.specs.Programs.{Program}
use Rattle.fs_semantics.specs.Orders.{Told, IsDeterministic, FreeCommute}
use Rattle.orders.specs.Relation.{Relation, comes}
use Rattle.commute_prune.specs.Keeping.{Keeps}
use Rattle.cnf.specs.Formulas.{Formula}
use Rattle.proof_check.specs.Refuted.{HasNoModel}
use Rattle.order_encode.specs.declared.witness.Witness.{Witness}
use Rattle.order_encode.specs.declared.witness.Witness.TheVariants as witness
use Rattle.answering.specs.Answers.{AnswersBy}
use Rattle.answering.specs.declared.answering.Answer.{Answer}
use Rattle.determinism.specs.declared.first.First.{First}
use Rattle.determinism.specs.Questions.{States}
use Rattle.determinism.specs.First.{IsPrunedCount, IsProof, IsSpent, IsDifference, pruned_in, IsAlone, IfSure, IfProved, IfDiffers, IfSpent}

-- the programs are deterministic, and a formula that states the question has no model
abbrev pub IsNo : List Program → (ℕ → ℕ → Type 0) → Formula → Type 0
IsNo es before f = IsDeterministic es before × States es before f × HasNoModel f

-- the formula has no model exactly where all programs commute of which neither comes before the other
abbrev pub StatesCommuting : List Program → (ℕ → ℕ → Type 0) → Formula → Type 0
StatesCommuting es before f = HasNoModel f ↔ FreeCommute es before

-- some such programs don't commute, or there was a budget to be spent
abbrev pub MayNotCommute : List Program → (ℕ → ℕ → Type 0) → ℕ → Type 0
MayNotCommute es before budget = (FreeCommute es before → ⊥) ⊎ (budget ≢ 2 ^ 64 - 1)

-- What each answer to the question of order says.
abbrev pub AnswersOrder : List Program → Relation → ℕ → Answer → Type 0
AnswersOrder es order budget a = AnswersBy (States es (Told (comes order))) (IsDeterministic es (Told (comes order)))
    (IsDifference es (Told (comes order))) budget a

-- the witness has two orders
abbrev pub HasTwoOrders : Witness → Type 0
HasTwoOrders (witness.Orders tree left right) = Unit {0}
HasTwoOrders (witness.Twice tree order) = ⊥
HasTwoOrders (witness.Ends tree order) = ⊥

-- all that is said of the answer to the first question
pub record IsJudged (es : List Program) (order : Relation) (budget : ℕ) (answered : First) : Type 0 where
  pub pruned : IsPrunedCount es (Told (comes order)) (pruned_in answered)
  pub alone : IsAlone answered ↔ Keeps es (Told (comes order)) []
  pub deterministic : IfSure answered (IsDeterministic es (Told (comes order)))
  pub proved : IfProved answered (IsProof es (Told (comes order)))
  pub differs : IfDiffers answered (IsDifference es (Told (comes order)))
  pub spent : IfSpent answered (IsSpent es (Told (comes order)) budget)
