use Rattle.std.proofs.Common.{List, ℕ}
use Rattle.std.specs.List.{flat_map}
use Rattle.pp_value.specs.declared.value.Ref.{Ref}
use Rattle.graph_semantics.specs.Relations.{references_within}
use Rattle.dep_graph.specs.Links.{with_nodes}
use Rattle.std.proofs.lemmas.Result.{err_from_is_err_and}
use Rattle.dep_graph.proofs.Chains.{next_nodes, nodes_end, loop_more, loop_stop}
use Rattle.dep_graph.proofs.values.+values.Goals as goal

pub push_values-loop-item-preserved : goal.push_values-loop-item-preserved
push_values-loop-item-preserved t c =
    let run : List Ref → List ℕ → _ = with_nodes c.args.side c.args.catalog.now c.args.at in
    loop_more run references_within (next_nodes c.args.side c.args.catalog.now c.args.at) c.args.items.now c.loop-item.item-index c.item-item.result
    c.loop-item.nodes c.push_value.new.nodes (run (flat_map references_within c.args.items.now) c.args.nodes.now) c.loop-item-test.true c.item-item.is c.loop-item.invariant c.in_ok-push_value.ensures

pub push_values-returns-in_err-push_value : goal.push_values-returns-in_err-push_value
push_values-returns-in_err-push_value t c =
    let run : List Ref → List ℕ → _ = with_nodes c.args.side c.args.catalog.now c.args.at in
    let whole = run (flat_map references_within c.args.items.now) c.args.nodes.now in
    let p = err_from_is_err_and c.from_residual.result c.from_residual.ensures.1 in
    rw (p.1, p.2) (loop_stop run references_within (nodes_end c.args.side c.args.catalog.now c.args.at) c.args.items.now c.loop-item.item-index c.item-item.result
    c.loop-item.nodes whole c.in_err-push_value.field-0.0 c.loop-item-test.true c.item-item.is c.loop-item.invariant c.in_err-push_value.ensures)
