use Rattle.std.proofs.Common.{◌++◌, ap, sym, add-one, ◌∙◌, append_assoc}
use Rattle.dep_graph.specs.Pairs.{pairs_in_row, pair_if, comes_at}
use Rattle.dep_graph.proofs.pairs.push_row.Goals as goal

pub loop-j-preserved : goal.loop-j-preserved
loop-j-preserved c =
    let one = pair_if (comes_at c.args.whole.now c.args.plain.now c.args.i c.loop-j.j) c.args.i c.loop-j.j in
    c.in_ok-push_pair.ensures ∙ ap (λ xs. xs ++ one) c.loop-j.invariant ∙ append_assoc c.args.pairs.now (pairs_in_row c.args.whole.now c.args.plain.now c.args.i c.loop-j.j) one
    ∙ ap (λ n. c.args.pairs.now ++ pairs_in_row c.args.whole.now c.args.plain.now c.args.i n) (sym (add-one c.loop-j.j))
