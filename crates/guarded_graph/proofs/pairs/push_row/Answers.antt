use Rattle.std.proofs.Common.{◌++◌, ap, sym, add-one, ◌∙◌, append_assoc}
use Rattle.orders.specs.Relation.{comes}
use Rattle.commute_prune.specs.Pairs.{row_of, pair_if}
use Rattle.given_hosts.specs.Guard.{guard_before}
use Rattle.guarded_graph.proofs.pairs.push_row.Goals as goal

pub loop-j-preserved : goal.loop-j-preserved
loop-j-preserved c =
    let test = guard_before c.args.order.now.count (comes c.args.order.now) in
    let one = pair_if (test c.args.i c.loop-j.j) c.args.i c.loop-j.j in
    c.in_ok-push_pair.ensures ∙ ap (λ xs. xs ++ one) c.loop-j.invariant ∙ append_assoc c.args.pairs.now (row_of test c.args.i c.loop-j.j) one
    ∙ ap (λ n. c.args.pairs.now ++ row_of test c.args.i n) (sym (add-one c.loop-j.j))
