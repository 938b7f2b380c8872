use Rattle.std.proofs.Common.{map}
use Rattle.std.proofs.lemmas.Result.{IfOk-weaker}
use Rattle.fs_semantics.specs.Orders.{Told, Succeeds}
use Rattle.fs_lang.specs.Meaning.{program_of}
use Rattle.orders.specs.Relation.{comes}
use Rattle.answering.specs.Answers.{in_its_words}
use Rattle.success.specs.Questions.{StatesEnd, IsEnd}
use Rattle.success.proofs.asking.ask_end.Goals as goal

pub returns : goal.returns
returns c = IfOk-weaker c.answer_to.result _ _ (λ found is.
    let es = map program_of c.args.plan.now.programs.now in
    let order = c.args.plan.now.order.now in
    let q = c.in_ok-question in
    in_its_words q.question c.args.budget (StatesEnd es order) (Succeeds es (Told (comes order)) → ⊥) (IsEnd es order) q.ensures.states q.ensures.never q.ensures.models found is) c.answer_to.ensures
