use Rattle.std.proofs.Common.{ℕ, List, ◌++◌, slice_index, ap, sym, add-one, ◌∙◌, append_assoc}
use Rattle.orders.specs.Relation.{comes}
use Rattle.graph_semantics.specs.Graphs.{pair_lines, pair_line, printed_at}
use Rattle.dep_graph.proofs.printing.push_row.Goals as goal

pub loop-j-preserved : goal.loop-j-preserved
loop-j-preserved c =
    let left = printed_at c.args.catalog.now (slice_index c.args.plain.now c.args.i) in
    let right = printed_at c.args.catalog.now (slice_index c.args.plain.now c.loop-j.j) in
    let lines : ℕ → List ℕ = pair_lines c.args.catalog.now c.args.plain.now (comes c.args.order.now) c.args.i in
    let one = pair_line (comes c.args.order.now c.args.i c.loop-j.j) left right in
    c.in_ok-push_pair_if.ensures ∙ ap (λ t. c.loop-j.text ++ pair_line t left right) c.comes-before.ensures ∙ ap (λ xs. xs ++ one) c.loop-j.invariant
    ∙ append_assoc c.args.text.now (lines c.loop-j.j) one ∙ ap (λ n. c.args.text.now ++ lines n) (sym (add-one c.loop-j.j))
