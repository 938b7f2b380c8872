use Rattle.std.proofs.Common.{◌≡◌, ℕ, List, [], ◌∷◌, ◌++◌, ◌+◌, ap, ◌∙◌}
use Rattle.std.proofs.lemmas.List.{with_items_is}
use Rattle.std.specs.Prelude.{swap}
use Rattle.orders.specs.Relation.{Comes}
use Rattle.orders.proofs.Walks.{walking_more, walking_less, walked, walked_length, turned_there, sorted_there}
use Rattle.orders.proofs.order.Order.walk.Goals as goal

pub loop-k-smaller : goal.loop-k-smaller
loop-k-smaller c =
    let o = c.args.self.now in
    let order = c.loop-k.order.items in
    let k = c.in-Some.k in
    let told = rw c.count.ensures.count at c.in_ok-places.ensures.places in
    let found = rw (c.as_slice.ensures.value, c.as_slice-in-loop-k.ensures.value) at c.in-Some.ensures in
    let turned = turned_there o.count (Comes o) order c.args.to.now c.in_ok-places.places.items c.loop-k.invariant.allowed told k found.0 found.1 in
    let e = with_items_is c.loop-k.order c.swap.new.self (c.swap.auto.self ∙ c.as_mut_slice.ensures.len) in
    let f = ap (λ (xs : List ℕ). swap xs k (k + 1)) c.as_mut_slice.ensures.value in
    rw (e, c.swap.ensures.after, f) (walking_less o.count (Comes o) c.args.from.now c.args.to.now order c.loop-k.orders c.requires.to c.loop-k.invariant k found.0 turned)

pub loop-k-preserved : goal.loop-k-preserved
loop-k-preserved c =
    let o = c.args.self.now in
    let order = c.loop-k.order.items in
    let k = c.in-Some.k in
    let told = rw c.count.ensures.count at c.in_ok-places.ensures.places in
    let found = rw (c.as_slice.ensures.value, c.as_slice-in-loop-k.ensures.value) at c.in-Some.ensures in
    let turned = turned_there o.count (Comes o) order c.args.to.now c.in_ok-places.places.items c.loop-k.invariant.allowed told k found.0 found.1 in
    let e = with_items_is c.loop-k.order c.swap.new.self (c.swap.auto.self ∙ c.as_mut_slice.ensures.len) in
    let s : c.swap.new.self ≡ swap order k (k + 1) = c.swap.ensures.after ∙ ap (λ (xs : List ℕ). swap xs k (k + 1)) c.as_mut_slice.ensures.value in
    let pushed : c.push-in-Some.new.self ≡ c.loop-k.orders ++ swap order k (k + 1) ∷ [] =
    c.in_ok-push-2.ensures.ok
    ∙ ap (λ (xs : List ℕ). c.loop-k.orders ++ xs ∷ []) (c.from_vec-in-Some.ensures ∙ c.in_ok-from_slice-2.ensures.items ∙ c.as_slice-in-Some.ensures.value ∙ e ∙ s) in
    rw (e, s, pushed) (walking_more o.count (Comes o) c.args.from.now c.args.to.now order c.loop-k.orders c.requires.to c.loop-k.invariant k found.0 turned)

pub returns-clause-walk : goal.returns-clause-walk
returns-clause-walk c =
    let o = c.args.self.now in
    let told = rw c.count.ensures.count at c.in_ok-places.ensures.places in
    let sorted = rw (c.as_slice.ensures.value, c.as_slice-in-loop-k.ensures.value) at c.in_default.ensures in
    walked o.count (Comes o) c.args.from.now c.args.to.now c.loop-k.order.items c.loop-k.orders c.requires.to c.loop-k.invariant
    (sorted_there o.count (Comes o) c.loop-k.order.items c.args.to.now c.in_ok-places.places.items c.loop-k.invariant.allowed told sorted)

pub returns-clause-length : goal.returns-clause-length
returns-clause-length c =
    let o = c.args.self.now in
    let told = rw c.count.ensures.count at c.in_ok-places.ensures.places in
    let sorted = rw (c.as_slice.ensures.value, c.as_slice-in-loop-k.ensures.value) at c.in_default.ensures in
    walked_length o.count (Comes o) c.args.from.now c.args.to.now c.loop-k.order.items c.loop-k.orders c.requires.to c.loop-k.invariant
    (sorted_there o.count (Comes o) c.loop-k.order.items c.args.to.now c.in_ok-places.places.items c.loop-k.invariant.allowed told sorted)
