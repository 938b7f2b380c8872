use Rattle.graph_semantics.specs.Relations.{relations_of, metaparameter_relations}
use Rattle.dep_graph.specs.Links.{with_links}
use Rattle.dep_graph.proofs.Places.{at_place}
use Rattle.std.proofs.lemmas.Result.{err_from_is_err_and}
use Rattle.dep_graph.proofs.Chains.{next_links, links_end, loop_more, loop_stop}
use Rattle.dep_graph.proofs.links.push_metaparameters.Goals as goal

pub returns-in_err-push_resource : goal.returns-in_err-push_resource
returns-in_err-push_resource c =
    let run = with_links c.args.catalog.now in
    let all = c.args.catalog.now.resources in
    let whole = run (metaparameter_relations c.args.catalog.now) c.args.links.now in
    let at = at_place all c.loop-place.place c.get.result.now c.get.ensures in
    let p = err_from_is_err_and c.from_residual.result c.from_residual.ensures.1 in
    rw (p.1, p.2) (loop_stop run relations_of (links_end c.args.catalog.now) all c.loop-place.place c.get.result.now
    c.loop-place.links whole c.in_err-push_resource.field-0.0 at.0 at.1 c.loop-place.invariant c.in_err-push_resource.ensures)

pub loop-place-preserved : goal.loop-place-preserved
loop-place-preserved c =
    let run = with_links c.args.catalog.now in
    let all = c.args.catalog.now.resources in
    let whole = run (metaparameter_relations c.args.catalog.now) c.args.links.now in
    let at = at_place all c.loop-place.place c.get.result.now c.get.ensures in
    loop_more run relations_of (next_links c.args.catalog.now) all c.loop-place.place c.get.result.now
    c.loop-place.links c.push_resource.new.links whole at.0 at.1 c.loop-place.invariant c.in_ok-push_resource.ensures
