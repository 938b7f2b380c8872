use Rattle.std.proofs.Common.{map}
use Rattle.std.proofs.lemmas.Result.{IfOk-weaker}
use Rattle.fs_semantics.specs.Orders.{Told}
use Rattle.fs_lang.specs.Meaning.{program_of}
use Rattle.orders.specs.Relation.{comes}
use Rattle.answering.specs.Answers.{in_its_words}
use Rattle.equal_graphs.specs.Equal.{AreEqual}
use Rattle.equal_graphs.specs.Questions.{StatesParting, IsParting}
use Rattle.equal_graphs.proofs.asking.ask_equal.Goals as goal

pub returns : goal.returns
returns c = IfOk-weaker c.answer_to.result _ _ (λ found is.
    let es = map program_of c.args.left.now.programs.now in
    let fs = map program_of c.args.right.now.programs.now in
    let order = c.args.left.now.order.now in
    let other = c.args.right.now.order.now in
    let q = c.in_ok-question in
    in_its_words q.question c.args.budget (StatesParting es order fs other) (AreEqual es (Told (comes order)) fs (Told (comes other))) (IsParting es order fs other) q.ensures.states q.ensures.equal q.ensures.models found is) c.answer_to.ensures
