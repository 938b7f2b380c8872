use Rattle.std.proofs.Common.{map}
use Rattle.std.proofs.lemmas.Result.{IfOk-weaker}
use Rattle.fs_semantics.specs.Orders.{Told}
use Rattle.fs_lang.specs.Meaning.{program_of}
use Rattle.orders.specs.Relation.{comes}
use Rattle.answering.specs.Answers.{in_its_words}
use Rattle.wanted_entry.specs.Entries.{Ensures}
use Rattle.ensured_entry.specs.Questions.{StatesMissing, IsMissed}
use Rattle.ensured_entry.proofs.missing.ask_run.Goals as goal

pub returns : goal.returns
returns c = IfOk-weaker c.answer_to.result _ _ (λ found is.
    let es = map program_of c.args.plan.now.programs.now in
    let order = c.args.plan.now.order.now in
    let w = c.args.wanted.now in
    let q = c.in_ok-question in
    in_its_words q.question c.args.budget (StatesMissing es order w) (Ensures es (Told (comes order)) w) (IsMissed es order w) q.ensures.states q.ensures.ensured q.ensures.models found is) c.answer_to.ensures
