use Rattle.std.proofs.lemmas.Result.{err_from_is_err_and}
use Rattle.reports.proofs.StageLaws.{before_graph, graph_answer, graph_refused}
use Rattle.reports.proofs.graphs.graph_for.Goals as goal

pub returns-in_err-catalog-clause-refused : goal.returns-in_err-catalog-clause-refused
returns-in_err-catalog-clause-refused c =
    let p = err_from_is_err_and c.from_residual.result c.from_residual.ensures.1 in
    rw (p.1, p.2) (before_graph c.args.inputs.now c.in_err-catalog.field-0.0 c.in_err-catalog.ensures.refused)

pub returns-clause-report : goal.returns-clause-report
returns-clause-report c =
    graph_answer c.args.inputs.now c.args.known.now c.args.source.now c.in_ok-catalog.catalog c.in_ok-catalog.ensures.compiled c.graph_lines.result c.graph_lines.ensures.shown

pub returns-clause-refused : goal.returns-clause-refused
returns-clause-refused c =
    graph_refused c.args.inputs.now c.args.known.now c.args.source.now c.in_ok-catalog.catalog c.in_ok-catalog.ensures.compiled c.graph_lines.result c.graph_lines.ensures.refused
