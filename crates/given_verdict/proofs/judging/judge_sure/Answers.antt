use Rattle.std.proofs.Common.{map, subst, ◌∙◌}
use Rattle.std.proofs.lemmas.List.{length-map}
use Rattle.fs_lang.specs.Meaning.{program_of}
use Rattle.given_verdict.specs.Second.{AnswersAgainFrom}
use Rattle.given_verdict.proofs.EndLaws.{one_order_of_change, end_of_change, succeeds}
use Rattle.given_verdict.proofs.VerdictLaws.{changed_from, spent_second}
use Rattle.given_verdict.proofs.judging.judge_sure.Goals as goal

pub judge_same-requires-clause-idempotent : goal.judge_same-requires-clause-idempotent
judge_same-requires-clause-idempotent c =
    let found = subst (AnswersAgainFrom c.args.asked.now.given.now (map program_of c.args.asked.now.plan.now.programs.now) c.args.asked.now.plan.now.order.now c.args.asked.now.budget) c.in-Refuted.is c.in_ok-again.ensures in
    found.0

pub judge_same-requires-clause-same : goal.judge_same-requires-clause-same
judge_same-requires-clause-same c =
    let found = subst (AnswersAgainFrom c.args.asked.now.given.now (map program_of c.args.asked.now.plan.now.programs.now) c.args.asked.now.plan.now.order.now c.args.asked.now.budget) c.in-Refuted.is c.in_ok-again.ensures in
    found.1

pub run_of-requires : goal.run_of-requires
run_of-requires c =
    let es = map program_of c.args.asked.now.plan.now.programs.now in
    one_order_of_change c.args.asked.now.given.now es c.args.asked.now.plan.now.order.now c.in-Shown.witness (subst (AnswersAgainFrom c.args.asked.now.given.now es c.args.asked.now.plan.now.order.now c.args.asked.now.budget) c.in-Shown.is c.in_ok-again.ensures)

pub returns-in_ok-end-in-Shown : goal.returns-in_ok-end-in-Shown
returns-in_ok-end-in-Shown c =
    let es = map program_of c.args.asked.now.plan.now.programs.now in
    let order = c.args.asked.now.plan.now.order.now in
    let given = c.args.asked.now.given.now in
    let long = length-map c.args.asked.now.plan.now.programs.now program_of ∙ c.args.asked.now.plan.now.count in
    let sure = c.requires.judged.deterministic in
    let found = subst (AnswersAgainFrom given es order c.args.asked.now.budget) c.in-Shown.is c.in_ok-again.ensures in
    let end = end_of_change given es order long sure c.in-Shown.witness c.in_ok-end-in-Shown.end found c.in_ok-end-in-Shown.ensures in
    changed_from given es order c.args.asked.now.budget c.args.pruned c.args.sure c.requires.judged c.in-Shown.witness c.in_ok-end-in-Shown.end found (succeeds given es order long sure c.in_ok-end-in-Shown.end end) end

pub returns-in_ok-proofs-in-Spent : goal.returns-in_ok-proofs-in-Spent
returns-in_ok-proofs-in-Spent c =
    let es = map program_of c.args.asked.now.plan.now.programs.now in
    let order = c.args.asked.now.plan.now.order.now in
    let given = c.args.asked.now.given.now in
    let found = subst (AnswersAgainFrom given es order c.args.asked.now.budget) c.in-Spent.is c.in_ok-again.ensures in
    spent_second given es order c.args.asked.now.budget c.args.pruned c.args.sure c.requires.judged c.in-Spent.cnf c.in-Spent.log c.in_ok-proofs-in-Spent.proofs c.in_ok-proofs-in-Spent.ensures found
