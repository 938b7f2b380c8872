use Rattle.std.proofs.Common.{map, sym, subst, ◌∙◌}
use Rattle.std.proofs.lemmas.List.{length-map}
use Rattle.fs_lang.specs.Meaning.{program_of}
use Rattle.question_terms.specs.Terms.{budget_of}
use Rattle.given_equal.specs.Answers.{IsComparedFrom}
use Rattle.equal_report.proofs.ToldLaws.{tellable, told_is}
use Rattle.equal_report.proofs.telling.told.Goals as goal

pub report_of-requires : goal.report_of-requires
report_of-requires c =
    let l = c.args.left.now in
    let r = c.args.right.now in
    let es = l.plan.now.programs.now in
    let fs = r.plan.now.programs.now in
    tellable c.args.terms.now.given _ _ (map program_of es) l.plan.now.order.now (map program_of fs) r.plan.now.order.now (budget_of c.args.terms.now.conflicts)
    (l.named ∙ sym (length-map es program_of ∙ l.plan.now.count)) (r.named ∙ sym (length-map fs program_of ∙ r.plan.now.count))
    c.in_ok-compared.compared c.in_ok-compared.ensures.compared

pub returns-clause-told : goal.returns-clause-told
returns-clause-told c =
    let l = c.args.left.now in
    let r = c.args.right.now in
    let es = l.plan.now.programs.now in
    let fs = r.plan.now.programs.now in
    let said = c.in_ok-compared.ensures in
    told_is c.args.terms.now c.budget-budget.result c.budget-budget.ensures.budget c.allowed_orders.ensures.long l.notes.now r.notes.now l.names.now (map program_of es) l.plan.now.order.now r.names.now (map program_of fs) r.plan.now.order.now
    (length-map es program_of ∙ l.plan.now.count) (length-map fs program_of ∙ r.plan.now.count) c.in_ok-report.report said.within c.in_ok-compared.compared
    (subst (λ b. IsComparedFrom c.args.terms.now.given (map program_of es) l.plan.now.order.now (map program_of fs) r.plan.now.order.now b c.in_ok-compared.compared) (sym c.budget-budget.ensures.budget) said.compared)
    c.in_ok-report.ensures
