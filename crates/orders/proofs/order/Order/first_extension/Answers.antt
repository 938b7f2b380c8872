use Rattle.std.proofs.Common.{◌≡◌, ℕ, List, length, ap, ◌∙◌}
use Rattle.std.proofs.lemmas.List.{with_items_is}
use Rattle.orders.proofs.Waits.{count_false_less}
use Rattle.orders.proofs.Taking.{begun, taking_more, taken_all, waited}
use Rattle.orders.proofs.order.Order.first_extension.Goals as goal

pub loop-node-init : goal.loop-node-init
loop-node-init c =
    rw c.new-order.ensures.items
    (begun c.args.self.now c.in_ok-taken.taken.items c.in_ok-waits.waits.items (c.in_ok-taken.ensures.size ∙ c.count-n.ensures.count) c.in_ok-taken.ensures.unset c.in_ok-waits.ensures.len c.in_ok-waits.ensures.waits)

pub release-requires-clause-some : goal.release-requires-clause-some
release-requires-clause-some c =
    let can = rw (c.as_slice.ensures.value, c.as_slice-in-loop-node.ensures.value, c.count-n.ensures.count) at c.in-Some.ensures in
    rw c.as_mut_slice.ensures.value
    (waited c.args.self.now c.count-n.ensures.ordered c.loop-node.taken.items c.loop-node.waits.items c.loop-node.order.items c.loop-node.invariant c.in-Some.node can.0 can.1 can.2)

pub loop-node-smaller : goal.loop-node-smaller
loop-node-smaller c =
    let can = rw (c.as_slice.ensures.value, c.as_slice-in-loop-node.ensures.value, c.count-n.ensures.count) at c.in-Some.ensures in
    count_false_less c.loop-node.taken.items c.in-Some.node (rw c.loop-node.invariant.taken_len can.0) can.1.fresh

pub loop-node-preserved : goal.loop-node-preserved
loop-node-preserved c =
    let can = rw (c.as_slice.ensures.value, c.as_slice-in-loop-node.ensures.value, c.count-n.ensures.count) at c.in-Some.ensures in
    let e = with_items_is c.loop-node.waits c.release.new.waits (c.release.auto.waits ∙ c.as_mut_slice.ensures.len) in
    let len : length c.release.new.waits ≡ c.args.self.now.count = c.release.auto.waits ∙ ap (λ (w : List ℕ). length w) c.as_mut_slice.ensures.value ∙ c.loop-node.invariant.waits_len in
    let less = rw c.as_mut_slice.ensures.value at c.release.ensures in
    rw (c.in_ok-push.ensures.items, e)
    (taking_more c.args.self.now c.count-n.ensures.ordered c.loop-node.taken.items c.loop-node.waits.items c.loop-node.order.items c.loop-node.invariant c.in-Some.node can.0 can.1 can.2 c.release.new.waits len less)

pub returns-clause-allowed : goal.returns-clause-allowed
returns-clause-allowed c =
    let none = rw (c.as_slice.ensures.value, c.as_slice-in-loop-node.ensures.value, c.count-n.ensures.count) at c.in_default.ensures in
    rw c.from_vec.ensures (taken_all c.args.self.now c.count-n.ensures.ordered c.loop-node.taken.items c.loop-node.waits.items c.loop-node.order.items c.loop-node.invariant none)
