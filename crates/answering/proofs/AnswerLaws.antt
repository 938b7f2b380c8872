-- What the answer to a question says, by what it holds.
use Rattle.std.proofs.Common.{◌≡◌, ℕ, subst}
use Rattle.cnf.specs.Formulas.{Formula}
use Rattle.proof_check.specs.Refuted.{HasNoModel}
use Rattle.order_encode.specs.Asked.{Asked}
use Rattle.answering.specs.Answers.{Answers, IsReadFrom, IsRefuted}
use Rattle.answering.specs.declared.answering.Answer.{Answer}
use Rattle.answering.specs.declared.answering.Answer.TheVariants as answer

module _ {B : Type 0} (q : Asked B) (budget : ℕ) where
  -- a witness that some model tells answers the question
  pub read : (a : Answer) → IsReadFrom q a → Answers q budget a
  read (answer.Refuted w) h = absurd h
  read (answer.Shown w) h = h
  read (answer.Spent cnf log) h = absurd h

  -- and so does the formula without a model
  pub refuted : (f : Formula) → f ≡ q.formula → (a : Answer) → IsRefuted f a → Answers q budget a
  refuted f is (answer.Refuted v) h = subst (λ g. (v.formula ≡ g) × HasNoModel g) is h
  refuted f is (answer.Shown w) h = absurd h
  refuted f is (answer.Spent cnf log) h = absurd h
