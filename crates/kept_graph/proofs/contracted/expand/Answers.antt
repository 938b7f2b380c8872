use Rattle.std.proofs.Common.{◌++◌, add-one, take, get_or, length, ◌<◌, arith, sym, ap, ◌∙◌}
use Rattle.kept_graph.specs.Contracted.{members, expanded}
use Rattle.kept_graph.proofs.ContractedLaws.{one_member_more}
use Rattle.kept_graph.proofs.contracted.expand.Goals as goal

pub loop-i-preserved : goal.loop-i-preserved
loop-i-preserved c =
    let p = c.args.pruned.now in
    let order = c.args.order.now in
    let i = c.loop-i.i-index in
    let here : i < length order = omega arith in
    c.in_ok-push_members.ensures ∙ ap (λ xs. xs ++ members p (get_or order i 0)) c.loop-i.invariant ∙ one_member_more p order i here
    ∙ ap (λ n. expanded p (take n order)) (sym (add-one i))
