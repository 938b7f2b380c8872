use Rattle.std.proofs.Common.{map, sym, ◌∙◌}
use Rattle.std.proofs.lemmas.List.{length-map}
use Rattle.fs_lang.specs.Meaning.{program_of}
use Rattle.question_terms.specs.Terms.{budget_of}
use Rattle.verdict_report.proofs.VerdictLaws.{tellable, told_is}
use Rattle.verdict_report.proofs.telling.told.Goals as goal

pub report_of-requires : goal.report_of-requires
report_of-requires c =
    let n = c.args.named.now in
    let es = map program_of n.plan.now.programs.now in
    tellable c.args.terms.now.given es n.plan.now.order.now _ (n.named ∙ sym n.plan.now.count ∙ sym (length-map n.plan.now.programs.now program_of))
    (budget_of c.args.terms.now.conflicts) c.in_ok-judged.judged c.in_ok-judged.ensures.judged

pub returns-clause-told : goal.returns-clause-told
returns-clause-told c =
    let n = c.args.named.now in
    told_is c.args.form c.args.terms.now n.notes.now n.names.now (map program_of n.plan.now.programs.now) n.plan.now.order.now c.budget-budget.result c.in_ok-judged.judged c.in_ok-report.report
    c.budget-budget.ensures.budget c.in_ok-judged.ensures.paths c.in_ok-judged.ensures.weight c.in_ok-judged.ensures.judged c.in_ok-report.ensures
