use Rattle.std.proofs.lemmas.Result.{err_from_is_err_and}
use Rattle.reports.proofs.StageLaws.{unread}
use Rattle.reports.proofs.catalogs.catalog_report.Goals as goal

pub returns-in_err-known-clause-refused : goal.returns-in_err-known-clause-refused
returns-in_err-known-clause-refused c =
    let p = err_from_is_err_and c.from_residual.result c.from_residual.ensures.1 in
    rw (p.1, p.2) (unread c.args.inputs.now c.in_err-known.field-0.0 c.in_err-known.ensures.refused)
