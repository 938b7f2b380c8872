use Rattle.std.proofs.Common.{map}
use Rattle.std.proofs.lemmas.Result.{IfOk-weaker}
use Rattle.fs_semantics.specs.Orders.{Told, IsDeterministic}
use Rattle.fs_lang.specs.Meaning.{program_of}
use Rattle.orders.specs.Relation.{comes}
use Rattle.answering.specs.Answers.{in_its_words}
use Rattle.determinism.specs.Questions.{States}
use Rattle.determinism.specs.First.{IsDifference}
use Rattle.determinism.proofs.asking.ask_orders.Goals as goal

pub returns : goal.returns
returns c = IfOk-weaker c.answer_to.result _ _ (λ found is.
    let es = map program_of c.args.plan.now.programs.now in
    let before = Told (comes c.args.plan.now.order.now) in
    let q = c.in_ok-question in
    in_its_words q.question c.args.budget (States es before) (IsDeterministic es before) (IsDifference es before) q.ensures.states q.ensures.sure q.ensures.models found is) c.answer_to.ensures
