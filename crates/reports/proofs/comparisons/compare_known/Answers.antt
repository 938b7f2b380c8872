use Rattle.std.proofs.Common.{refl}
use Rattle.std.proofs.lemmas.Result.{err_from_is_err_and}
use Rattle.reports.proofs.ComparisonLaws.{first_refused}
use Rattle.reports.proofs.comparisons.compare_known.Goals as goal

pub returns-in_err-left-clause-refused : goal.returns-in_err-left-clause-refused
returns-in_err-left-clause-refused c =
    let p = err_from_is_err_and c.from_residual.result c.from_residual.ensures.1 in
    rw (p.1, p.2)
    (first_refused c.args.inputs.now c.args.known.now c.args.source c.input-text.result.now c.node_name-name.result.now c.args.inputs.now.limits c.in_err-left.field-0.0 c.in_err-left.ensures.refused
    c.input-text.ensures c.requires.source c.node_name-name.ensures refl c.requires.known)

pub compare_with-requires-clause-left : goal.compare_with-requires-clause-left
compare_with-requires-clause-left c =
    c.in_ok-left.ensures.modelled c.args.inputs.now c.input-text.ensures c.requires.source c.node_name-name.ensures refl c.requires.known
