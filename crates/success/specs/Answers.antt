-- What is answered to the question whether the graph succeeds.
use Rattle.std.specs.Prelude.{ℕ, List}
use Rattle.fs_semantics.specs.Programs.{Program}
use Rattle.fs_semantics.specs.Orders.{Told, Succeeds}
use Rattle.orders.specs.Relation.{Relation, comes}
use Rattle.answering.specs.Answers.{AnswersBy}
use Rattle.answering.specs.declared.answering.Answer.{Answer}
use Rattle.success.specs.Questions.{StatesEnd, IsEnd}

-- whether the graph succeeds
abbrev pub AnswersEnd : List Program → Relation → ℕ → Answer → Type 0
AnswersEnd es order budget a = AnswersBy (StatesEnd es order) (Succeeds es (Told (comes order)) → ⊥) (IsEnd es order) budget a
