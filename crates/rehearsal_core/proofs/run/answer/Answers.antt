use Rattle.std.proofs.Common.{sym, subst}
use Rattle.std.proofs.lemmas.Result.{err_from_is_err_and}
use Rattle.std.specs.Prelude.{IfOk, IfErr}
use Rattle.reports.specs.Sides.{IfUntold}
use Rattle.rehearsal_core.specs.Inputs.{IsAnswerTo, BreaksFor}
use Rattle.rehearsal_core.proofs.LoadLaws.{of_input, not_both}
use Rattle.rehearsal_core.proofs.run.answer.Goals as goal

pub returns-then-compares-clause-report : goal.returns-then-compares-clause-report
returns-then-compares-clause-report c =
    subst (λ a. IfOk c.comparison_on.result (IsAnswerTo a c.args.conflicts c.args.inputs.now)) (sym (c.is_equal-compares.ensures.0 c.if-compares.true)) c.comparison_on.ensures.report

pub returns-then-compares-clause-refused : goal.returns-then-compares-clause-refused
returns-then-compares-clause-refused c =
    subst (λ a. IfErr c.comparison_on.result (λ e. IfUntold e (BreaksFor a c.args.conflicts c.args.inputs.now))) (sym (c.is_equal-compares.ensures.0 c.if-compares.true)) c.comparison_on.ensures.refused

pub answer_one-requires-clause-one : goal.answer_one-requires-clause-one
answer_one-requires-clause-one c = λ same. not_both c.is_equal-compares.result (c.is_equal-compares.ensures.1 same) c.if-compares.false

pub returns-in_err-report-clause-refused : goal.returns-in_err-report-clause-refused
returns-in_err-report-clause-refused c =
    let p = err_from_is_err_and c.from_residual.result c.from_residual.ensures.1 in
    rw (p.1, p.2) (of_input c.args.ask c.args.conflicts c.args.inputs.now c.in_err-report.field-0.0 c.in_err-report.ensures.refused)
