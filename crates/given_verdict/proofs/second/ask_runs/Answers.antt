use Rattle.std.proofs.Common.{map}
use Rattle.std.proofs.lemmas.Result.{IfOk-weaker}
use Rattle.fs_lang.specs.Meaning.{program_of}
use Rattle.answering.specs.Answers.{in_its_words}
use Rattle.given_verdict.specs.Second.{StatesSecondFrom, NeverChangedFrom, IsChangeTree}
use Rattle.given_verdict.proofs.second.ask_runs.Goals as goal

pub returns : goal.returns
returns c = IfOk-weaker c.answer_to.result _ _ (λ found is.
    let es = map program_of c.args.asked.now.plan.now.programs.now in
    let order = c.args.asked.now.plan.now.order.now in
    let given = c.args.asked.now.given.now in
    let q = c.in_ok-question in
    in_its_words q.question c.args.asked.now.budget (StatesSecondFrom given es order) (NeverChangedFrom given es order) (IsChangeTree given es order) q.ensures.states q.ensures.never q.ensures.models found is) c.answer_to.ensures
