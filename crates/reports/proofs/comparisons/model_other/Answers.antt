use Rattle.std.proofs.Common.{refl}
use Rattle.std.proofs.lemmas.Result.{err_from_is_err_and}
use Rattle.reports.proofs.ComparisonLaws.{other_unread, other_modelled, other_unmodelled}
use Rattle.reports.proofs.comparisons.model_other.Goals as goal

pub returns-in_err-source-clause-refused : goal.returns-in_err-source-clause-refused
returns-in_err-source-clause-refused c =
    let p = err_from_is_err_and c.from_residual.result c.from_residual.ensures.1 in
    rw (p.1, p.2) (other_unread c.args.inputs.now c.args.known.now c.in_err-source.field-0.0 c.requires.known c.in_err-source.ensures.refused)

pub returns-clause-modelled : goal.returns-clause-modelled
returns-clause-modelled c =
    other_modelled c.args.inputs.now c.args.known.now c.in_ok-source.source c.other_text-text.result.now c.node_name.result.now c.args.inputs.now.limits c.other_text-text.ensures
    c.in_ok-source.ensures.compiled c.node_name.ensures refl c.requires.known _ c.model_source.result c.model_source.ensures.modelled

pub returns-clause-refused : goal.returns-clause-refused
returns-clause-refused c =
    other_unmodelled c.args.inputs.now c.args.known.now c.in_ok-source.source c.other_text-text.result.now c.node_name.result.now c.args.inputs.now.limits c.other_text-text.ensures
    c.in_ok-source.ensures.compiled c.node_name.ensures refl c.requires.known c.model_source.result c.model_source.ensures.refused
