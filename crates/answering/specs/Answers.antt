-- What comes of a question.
use Rattle.std.specs.Prelude.{◌≡◌, ℕ, ◌^◌, ◌-◌, List, length}
use Rattle.std.proofs.Common.{sym, subst}
use Rattle.cnf.specs.Formulas.{Formula}
use Rattle.cnf.specs.declared.log.Step.{Step}
use Rattle.proof_check.specs.Refuted.{HasNoModel}
use Rattle.sat_solver.specs.Working.{IsWorking}
use Rattle.order_encode.specs.Asked.{Asked, CanShow}
use Rattle.order_encode.specs.declared.witness.Witness.{Witness}
use Rattle.answering.specs.declared.answering.Answer.{Answer}
use Rattle.answering.specs.declared.answering.Answer.TheVariants as answer

-- the log is a working one of just as many steps as the budget; the greatest u64 is no budget
pub record UsesUp (budget : ℕ) (f : Formula) (steps : List Step) : Type 0 where
  pub working : IsWorking f steps
  pub all : length steps ≡ budget
  pub limited : budget ≡ 2 ^ 64 - 1 → ⊥

-- The formula has no model; or the witness is what a model tells; or the budget was spent on the formula.
abbrev pub Answers : {B : Type 0} → Asked B → ℕ → Answer → Type 0
Answers q budget (answer.Refuted v) = (v.formula ≡ q.formula) × HasNoModel q.formula
Answers q budget (answer.Shown w) = CanShow q w
Answers q budget (answer.Spent cnf log) = (cnf ≡ q.formula) × UsesUp budget cnf log.steps

-- the answer is a witness that some model tells
abbrev pub IsReadFrom : {B : Type 0} → Asked B → Answer → Type 0
IsReadFrom q (answer.Refuted w) = ⊥
IsReadFrom q (answer.Shown w) = CanShow q w
IsReadFrom q (answer.Spent cnf log) = ⊥

-- the answer holds this formula, which has no model
abbrev pub IsRefuted : Formula → Answer → Type 0
IsRefuted f (answer.Refuted v) = (v.formula ≡ f) × HasNoModel f
IsRefuted f (answer.Shown w) = ⊥
IsRefuted f (answer.Spent cnf log) = ⊥

-- The same in the question's own words: what its formula states, what holds where it has no model, and what a witness shows.
abbrev pub AnswersBy : (Formula → Type 0) → Type 0 → (Witness → Type 0) → ℕ → Answer → Type 0
AnswersBy states none shows budget (answer.Refuted v) = none × states v.formula × HasNoModel v.formula
AnswersBy states none shows budget (answer.Shown w) = shows w
AnswersBy states none shows budget (answer.Spent cnf log) = states cnf × UsesUp budget cnf log.steps

-- An answer to a question is one in its words.
module _ {B : Type 0} (q : Asked B) (budget : ℕ) (states : Formula → Type 0) (none : Type 0) (shows : Witness → Type 0) where
  pub in_its_words : states q.formula → (HasNoModel q.formula → none) → ((w : Witness) → CanShow q w → shows w)
      → (a : Answer) → Answers q budget a → AnswersBy states none shows budget a
  in_its_words stated sure models (answer.Refuted v) h = (sure h.1, subst states (sym h.0) stated, subst HasNoModel (sym h.0) h.1)
  in_its_words stated sure models (answer.Shown w) h = models w h
  in_its_words stated sure models (answer.Spent cnf log) h = (subst states (sym h.0) stated, h.1)
