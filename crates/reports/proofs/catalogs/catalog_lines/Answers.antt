use Rattle.std.proofs.Common.{◌∙◌}
use Rattle.std.proofs.lemmas.Result.{err_from_is_err_and}
use Rattle.reports.proofs.catalogs.catalog_lines.Goals as goal

pub returns-in_err-catalog-clause-refused : goal.returns-in_err-catalog-clause-refused
returns-in_err-catalog-clause-refused c =
    let p = err_from_is_err_and c.from_residual.result c.from_residual.ensures.1 in
    rw (p.1, p.2) c.in_err-catalog.ensures.refused

pub returns-in_err-text-clause-refused : goal.returns-in_err-text-clause-refused
returns-in_err-text-clause-refused c =
    let p = err_from_is_err_and c.from_residual-in_err-text.result c.from_residual-in_err-text.ensures.1 in
    rw (p.1, p.2) tt

pub returns-clause-report : goal.returns-clause-report
returns-clause-report c = record {
  known = c.args.known.now;
  source = c.args.source.now;
  catalog = c.in_ok-catalog.catalog;
  compiled = c.in_ok-catalog.ensures.compiled;
  text = c.bytes_of.ensures ∙ c.in_ok-text.ensures;
}
