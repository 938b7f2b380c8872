use Rattle.std.proofs.Common.{map, sym, subst, ◌∙◌}
use Rattle.std.proofs.lemmas.Result.{IfOk-weaker}
use Rattle.fs_lang.specs.Meaning.{program_of}
use Rattle.given_verdict.specs.First.{IsJudgedFrom}
use Rattle.given_verdict.proofs.NoneLaws.{none_there, judged}
use Rattle.given_verdict.proofs.first.first_from.Goals as goal

pub returns-then-is_empty : goal.returns-then-is_empty
returns-then-is_empty c = IfOk-weaker c.judge_order.result _ _ (λ answered is.
    let es = map program_of c.args.asked.now.plan.now.programs.now in
    let order = c.args.asked.now.plan.now.order.now in
    subst (λ g. IsJudgedFrom g es order c.args.asked.now.budget answered) (sym (none_there c.args.asked.now.given.now (sym c.is_empty.ensures ∙ c.if-is_empty.true))) (judged es order c.args.asked.now.budget answered is)) c.judge_order.ensures
