use Rattle.std.proofs.Common.{◌≡◌, ◌<◌, length, get_or, subst}
use Rattle.std.specs.List.{flat_map}
use Rattle.graph_semantics.specs.Relations.{relations_by}
use Rattle.dep_graph.specs.Links.{with_links}
use Rattle.std.proofs.lemmas.Result.{err_from_is_err_and}
use Rattle.dep_graph.proofs.Chains.{links_end, loop_stop}
use Rattle.dep_graph.proofs.links.push_attributes.Goals as goal

pub returns-in_err-push_attribute : goal.returns-in_err-push_attribute
returns-in_err-push_attribute c =
    let run = with_links c.args.catalog.now in
    let whole = run (flat_map (relations_by c.args.r.now) c.args.r.now.attrs) c.args.links.now in
    let p = err_from_is_err_and c.from_residual.result c.from_residual.ensures.1 in
    rw (p.1, p.2) (loop_stop run (relations_by c.args.r.now) (links_end c.args.catalog.now) c.args.r.now.attrs c.loop-pair.pair-index c.pair-item.result
    c.loop-pair.links whole c.in_err-push_attribute.field-0.0 (subst (λ xs. c.loop-pair.pair-index < length xs) c.as_slice-pair-items.ensures.pairs c.loop-pair-test.true)
    (subst (λ xs. c.pair-item.result ≡ get_or xs c.loop-pair.pair-index c.pair-item.result) c.as_slice-pair-items.ensures.pairs c.pair-item.is) c.loop-pair.invariant c.in_err-push_attribute.ensures)
