use Rattle.std.proofs.Common.{map}
use Rattle.std.proofs.lemmas.Result.{IfOk-weaker}
use Rattle.fs_semantics.specs.Orders.{Told, IsIdempotent}
use Rattle.fs_lang.specs.Meaning.{program_of}
use Rattle.orders.specs.Relation.{comes}
use Rattle.answering.specs.Answers.{in_its_words}
use Rattle.second_runs.specs.Questions.{StatesSecond, IsSecondChange}
use Rattle.second_runs.proofs.second.ask_second.Goals as goal

pub returns : goal.returns
returns c = IfOk-weaker c.answer_to.result _ _ (λ found is.
    let es = map program_of c.args.plan.now.programs.now in
    let order = c.args.plan.now.order.now in
    let q = c.in_ok-question in
    in_its_words q.question c.args.budget (StatesSecond es order) (IsIdempotent es (Told (comes order))) (IsSecondChange es order) q.ensures.states q.ensures.same q.ensures.models found is) c.answer_to.ensures
