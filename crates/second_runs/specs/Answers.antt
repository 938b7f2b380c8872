-- What is answered to the question of a second run.
use Rattle.std.specs.Prelude.{ℕ, List}
use Rattle.fs_semantics.specs.Programs.{Program}
use Rattle.fs_semantics.specs.Orders.{Told, IsIdempotent}
use Rattle.orders.specs.Relation.{Relation, comes}
use Rattle.answering.specs.Answers.{AnswersBy}
use Rattle.answering.specs.declared.answering.Answer.{Answer}
use Rattle.second_runs.specs.Questions.{StatesSecond, IsSecondChange}

-- whether a second run changes anything
abbrev pub AnswersSecond : List Program → Relation → ℕ → Answer → Type 0
AnswersSecond es order budget a = AnswersBy (StatesSecond es order) (IsIdempotent es (Told (comes order)))
    (IsSecondChange es order) budget a
