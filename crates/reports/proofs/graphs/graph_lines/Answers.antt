use Rattle.std.proofs.Common.{◌∙◌}
use Rattle.std.proofs.lemmas.Result.{err_from_is_err_and}
use Rattle.reports.proofs.graphs.graph_lines.Goals as goal

pub returns-in_err-plan-clause-refused : goal.returns-in_err-plan-clause-refused
returns-in_err-plan-clause-refused c =
    let p = err_from_is_err_and c.from_residual.result c.from_residual.ensures.1 in
    rw (p.1, p.2) c.in_err-plan.ensures.refused

pub graph_text-requires : goal.graph_text-requires
graph_text-requires c = c.in_ok-plan.ensures.count

pub returns-in_err-text-clause-refused : goal.returns-in_err-text-clause-refused
returns-in_err-text-clause-refused c =
    let p = err_from_is_err_and c.from_residual-in_err-text.result c.from_residual-in_err-text.ensures.1 in
    rw (p.1, p.2) tt

pub returns-clause-shown : goal.returns-clause-shown
returns-clause-shown c = record {
  graph = c.in_ok-plan.plan;
  of = c.in_ok-plan.ensures.graph;
  count = c.in_ok-plan.ensures.count;
  strict = c.count.ensures.ordered;
  text = c.bytes_of.ensures ∙ c.in_ok-text.ensures;
}
