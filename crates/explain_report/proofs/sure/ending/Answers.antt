use Rattle.std.proofs.Common.{List, ℕ, ◌++◌, map, ap, subst, ◌∙◌}
use Rattle.std.proofs.lemmas.Result.{IfOk-weaker}
use Rattle.fs_lang.specs.Meaning.{program_of}
use Rattle.verdict.specs.declared.verdicts.Ends.{Ends}
use Rattle.verdict_report.specs.Lines.{fails_line, last_line}
use Rattle.explain_report.specs.Steps.{EndHolds}
use Rattle.explain_report.specs.Told.{IsEnding}
use Rattle.explain_report.proofs.ReportLaws.{ends_never}
use Rattle.explain_report.proofs.sure.ending.Goals as goal

pub returns-in_ok-line-in-Never : goal.returns-in_ok-line-in-Never
returns-in_ok-line-in-Never c =
    let given = c.args.given.now in
    let names = c.args.names.now in
    let es = map program_of c.args.plan.now.programs.now in
    let order = c.args.plan.now.order.now in
    let never = subst (EndHolds given es order) c.in-Never.is c.requires in
    IfOk-weaker c.last_text-in-Never.result _ (IsEnding given names es order)
    (λ last is. ends_never given names es order c.in_ok-line-in-Never.line last never (c.in_ok-line-in-Never.ensures never)
    (is ∙ ap (λ (e : Ends). last_line e ++ c.as_slice.result.now) c.in-Never.is ∙ ap (λ (l : List ℕ). fails_line ++ l) c.as_slice.ensures))
    c.last_text-in-Never.ensures
