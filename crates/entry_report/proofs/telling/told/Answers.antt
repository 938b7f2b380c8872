use Rattle.std.proofs.Common.{map, sym, subst}
use Rattle.fs_lang.specs.Meaning.{program_of}
use Rattle.given_entry.specs.Answers.{IsEnsuredFrom}
use Rattle.entry_report.proofs.ToldLaws.{told_is}
use Rattle.entry_report.proofs.telling.told.Goals as goal

pub returns-clause-told : goal.returns-clause-told
returns-clause-told c =
    let n = c.args.named.now in
    let es = map program_of n.plan.now.programs.now in
    let said = c.in_ok-answered.ensures in
    told_is c.args.terms.now n.notes.now c.args.wanted.now n.names.now es n.plan.now.order.now c.budget-budget.result c.budget-budget.ensures.budget c.in_ok-report.report
    said.paths said.probed said.weight c.in_ok-answered.answered
    (subst (λ b. IsEnsuredFrom c.args.terms.now.given es n.plan.now.order.now c.args.wanted.now b c.in_ok-answered.answered) (sym c.budget-budget.ensures.budget) said.ensured)
    c.in_ok-report.ensures
