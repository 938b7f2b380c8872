use Rattle.std.proofs.Common.{map, sym, subst, ◌∙◌}
use Rattle.std.proofs.lemmas.Result.{IfOk-weaker}
use Rattle.fs_lang.specs.Meaning.{program_of}
use Rattle.given_verdict.proofs.NoneLaws.{none_there}
use Rattle.given_entry.specs.Answers.{IsEnsuredFrom}
use Rattle.given_entry.proofs.NoneLaws.{ensured_from}
use Rattle.given_entry.proofs.ensuring.entry_from.Goals as goal

pub returns-then-is_empty : goal.returns-then-is_empty
returns-then-is_empty c = IfOk-weaker c.judge_entry.result _ _ (λ ensured is.
    let es = map program_of c.args.plan.now.programs.now in
    let order = c.args.plan.now.order.now in
    subst (λ g. IsEnsuredFrom g es order c.args.wanted.now c.args.budget ensured) (sym (none_there c.args.given.now (sym c.is_empty.ensures ∙ c.if-is_empty.true)))
    (ensured_from es order c.args.wanted.now c.args.budget ensured is)) c.judge_entry.ensures
