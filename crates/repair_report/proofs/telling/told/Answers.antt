use Rattle.std.proofs.Common.{map, sym, subst}
use Rattle.std.proofs.lemmas.List.{length-map}
use Rattle.fs_lang.specs.Meaning.{program_of}
use Rattle.repair_report.specs.Steps.{IsReportOf}
use Rattle.repair_report.proofs.ToldLaws.{tellable, told_is}
use Rattle.repair_report.proofs.telling.told.Goals as goal

pub report_of-requires : goal.report_of-requires
report_of-requires c =
    let n = c.args.named.now in
    tellable (map program_of n.plan.now.programs.now) n.plan.now.order.now c.args.terms.now n.notes.now n.names.now c.budget-budget.result c.budget-budget.ensures.budget c.in_ok-repaired.repaired n.named c.in_ok-repaired.ensures.repaired.added

pub returns-clause-told : goal.returns-clause-told
returns-clause-told c =
    let n = c.args.named.now in
    let said = c.in_ok-repaired.ensures in
    told_is (map program_of n.plan.now.programs.now) n.plan.now.order.now c.args.terms.now n.notes.now n.names.now c.budget-budget.result c.budget-budget.ensures.budget c.in_ok-repaired.repaired c.in_ok-report.report
    said.paths said.weight said.repaired
    (subst (λ k. IsReportOf n.names.now k n.notes.now c.budget-budget.result c.in_ok-repaired.repaired c.in_ok-report.report) (sym (length-map n.plan.now.programs.now program_of)) c.in_ok-report.ensures)
