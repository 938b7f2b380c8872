use Rattle.std.proofs.Common.{◌++◌, ap, sym, add-one, ◌∙◌, append_assoc}
use Rattle.orders.specs.Relation.{comes}
use Rattle.commute_prune.specs.Pairs.{row_of, pair_if}
use Rattle.repair.proofs.with.push_row.Goals as goal

pub loop-b-preserved : goal.loop-b-preserved
loop-b-preserved c =
    let test = comes c.args.order.now in
    let one = pair_if (test c.args.a c.loop-b.b) c.args.a c.loop-b.b in
    c.in_ok-push_pair.ensures ∙ ap (λ xs. xs ++ one) c.loop-b.invariant ∙ append_assoc c.args.pairs.now (row_of test c.args.a c.loop-b.b) one
    ∙ ap (λ n. c.args.pairs.now ++ row_of test c.args.a n) (sym (add-one c.loop-b.b))
