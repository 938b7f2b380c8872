use Rattle.std.proofs.Common.{refl}
use Rattle.std.proofs.lemmas.Result.{err_from_is_err_and}
use Rattle.reports.proofs.QuestionLaws.{source_report}
use Rattle.reports.proofs.stages.report_on_known.Goals as goal

pub returns-in_err-made-clause-refused : goal.returns-in_err-made-clause-refused
returns-in_err-made-clause-refused c =
    let p = err_from_is_err_and c.from_residual.result c.from_residual.ensures.1 in
    let i = c.args.inputs.now in
    rw (p.1, p.2)
    (source_report c.args.question i c.args.known.now c.args.source c.input-text.result.now c.node_name-name.result.now i.limits c.in_err-made.field-0.0 c.in_err-made.ensures.refused
    c.input-text.ensures c.requires.source c.node_name-name.ensures refl c.requires.known)

pub report_on_programs-requires-clause-modelled : goal.report_on_programs-requires-clause-modelled
report_on_programs-requires-clause-modelled c =
    c.in_ok-made.ensures.modelled c.args.inputs.now c.input-text.ensures c.requires.source c.node_name-name.ensures refl c.requires.known
