use Rattle.std.proofs.Common.{◌++◌, ap, sym, add-one, ◌∙◌, append_assoc}
use Rattle.commute_prune.specs.Pairs.{row_of, pair_if}
use Rattle.kept_graph.specs.Pairs.{comes_at}
use Rattle.kept_graph.proofs.pairs.push_row.Goals as goal

pub loop-j-preserved : goal.loop-j-preserved
loop-j-preserved c =
    let test = comes_at c.args.order.now c.args.nodes.now in
    let one = pair_if (test c.args.i c.loop-j.j) c.args.i c.loop-j.j in
    c.in_ok-push_pair.ensures ∙ ap (λ xs. xs ++ one) c.loop-j.invariant ∙ append_assoc c.args.pairs.now (row_of test c.args.i c.loop-j.j) one
    ∙ ap (λ n. c.args.pairs.now ++ row_of test c.args.i n) (sym (add-one c.loop-j.j))
