use Rattle.std.proofs.Common.{◌==◌, ◌+◌, cond, [], ◌∷◌, ◌++◌, drop, get_or, sym, ap, ◌∙◌}
use Rattle.std.proofs.lemmas.List.{append_assoc}
use Rattle.order_circuit.proofs.ExchangeLaws.{exchanged_from, exchange_step, exchange_start}
use Rattle.order_encode.proofs.ReadLaws.{rest_from}
use Rattle.order_encode.proofs.read.exchanged_behind.Goals as goal

pub loop-k-init : goal.loop-k-init
loop-k-init c = ap (λ xs. xs ++ exchanged_from 0 c.args.place (c.args.first ∷ c.args.rest.now)) c.new-order.ensures ∙ exchange_start c.args.place (c.args.first ∷ c.args.rest.now)

pub loop-k-preserved : goal.loop-k-preserved
loop-k-preserved c =
    let k = c.loop-k.k in
    let j = c.args.place in
    let held = c.loop-k.held in
    let order = c.loop-k.order in
    let rest = c.args.rest.now in
    let here = get_or rest k 0 in
    let told = c.in_ok-push.ensures.ok ∙ ap (λ x. order ++ x ∷ []) c.chosen-next.ensures in
    (λ t. told t ++ exchanged_from (k + 1) j (c.chosen-held.ensures t ∷ drop (k + 1) rest))
    ∙ append_assoc order (cond (k == j) here held ∷ []) (exchanged_from (k + 1) j (cond (k == j) held here ∷ drop (k + 1) rest))
    ∙ ap (λ xs. order ++ xs) (sym (exchange_step k j held here (drop (k + 1) rest)))
    ∙ ap (λ xs. order ++ exchanged_from k j (held ∷ xs)) (sym (rest_from rest k c.loop-k-test.true))
    ∙ c.loop-k.invariant
