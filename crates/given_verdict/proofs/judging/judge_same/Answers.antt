use Rattle.std.proofs.Common.{map, subst, ◌∙◌}
use Rattle.std.proofs.lemmas.List.{length-map}
use Rattle.fs_lang.specs.Meaning.{program_of}
use Rattle.given_verdict.specs.Ends.{AnswersEndFrom}
use Rattle.given_verdict.proofs.EndLaws.{succeeds}
use Rattle.given_verdict.proofs.VerdictLaws.{same_from, same_never, spent_last}
use Rattle.given_verdict.proofs.judging.judge_same.Goals as goal

pub returns-in-Shown : goal.returns-in-Shown
returns-in-Shown c =
    let es = map program_of c.args.asked.now.plan.now.programs.now in
    let order = c.args.asked.now.plan.now.order.now in
    let given = c.args.asked.now.given.now in
    let found = subst (AnswersEndFrom given es order c.args.asked.now.budget) c.in-Shown.is c.in_ok-end.ensures in
    same_from given es order c.args.asked.now.budget c.args.pruned c.args.sure c.requires.judged c.args.same c.in-Shown.witness c.requires.idempotent c.requires.same
    (succeeds given es order (length-map c.args.asked.now.plan.now.programs.now program_of ∙ c.args.asked.now.plan.now.count) c.requires.judged.deterministic c.in-Shown.witness found) found

pub returns-in-Refuted : goal.returns-in-Refuted
returns-in-Refuted c =
    let es = map program_of c.args.asked.now.plan.now.programs.now in
    let order = c.args.asked.now.plan.now.order.now in
    let given = c.args.asked.now.given.now in
    let found = subst (AnswersEndFrom given es order c.args.asked.now.budget) c.in-Refuted.is c.in_ok-end.ensures in
    same_never given es order c.args.asked.now.budget c.args.pruned c.args.sure c.requires.judged c.args.same c.in-Refuted.verified c.requires.idempotent c.requires.same
    found.0 (record { states = found.1; no_model = found.2 })

pub returns-in_ok-proofs-in-Spent : goal.returns-in_ok-proofs-in-Spent
returns-in_ok-proofs-in-Spent c =
    let es = map program_of c.args.asked.now.plan.now.programs.now in
    let order = c.args.asked.now.plan.now.order.now in
    let given = c.args.asked.now.given.now in
    let found = subst (AnswersEndFrom given es order c.args.asked.now.budget) c.in-Spent.is c.in_ok-end.ensures in
    spent_last given es order c.args.asked.now.budget c.args.pruned c.args.sure c.requires.judged c.args.same c.in-Spent.cnf c.in-Spent.log c.in_ok-proofs-in-Spent.proofs c.in_ok-proofs-in-Spent.ensures
    c.requires.idempotent c.requires.same found.0 found.1
