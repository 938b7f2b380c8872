use Rattle.std.proofs.Common.{◌≡◌, map, length, sym, ap, subst, ◌∙◌}
use Rattle.std.proofs.lemmas.Result.{IfOk-weaker}
use Rattle.std.proofs.lemmas.List.{length-map}
use Rattle.fs_semantics.specs.Orders.{Told, up_from}
use Rattle.fs_lang.specs.Meaning.{program_of}
use Rattle.orders.specs.Relation.{comes}
use Rattle.given_hosts.specs.Guard.{guard_before, GoesFirst}
use Rattle.given_verdict.proofs.FirstLaws.{two_orders, judged_from}
use Rattle.given_verdict.proofs.first.first_guarded.Goals as goal

pub answer_without-requires : goal.answer_without-requires
answer_without-requires c = two_orders (map program_of c.as_slice.result.now) (Told (comes c.in_ok-graph.graph.order)) c.in_ok-answered.answered c.in_ok-answered.ensures.differs

pub returns : goal.returns
returns c = IfOk-weaker c.answer_without.result _ _ (λ without is.
    let es = map program_of c.args.asked.now.plan.now.programs.now in
    let order = c.args.asked.now.plan.now.order.now in
    let long : length es ≡ order.count = length-map c.args.asked.now.plan.now.programs.now program_of ∙ c.args.asked.now.plan.now.count in
    let goes = subst (λ n. GoesFirst n (comes order) (guard_before order.count (comes order))) (sym long) (c.guards.ensures.goes order.count (comes order)) in
    judged_from c.args.asked.now.given.now es order long c.requires.given (λ kept k. c.guard_is_pruned.ensures c.args.asked.now.given.now es (comes order) (guard_before order.count (comes order)) goes kept k)
    (λ kept left k l. (c.pruning.ensures.one es (comes order) k.0 l.0 (up_from 0 (length es)) kept left k.1 l.1).1)
    (λ kept k. (c.pruning.ensures.some es (comes order) k.0 kept (c.pruning.ensures.leads es (comes order) k.0 (up_from 0 (length es)) kept k.1)).few)
    c.args.asked.now.budget (map program_of c.as_slice.result.now) c.in_ok-graph.graph.order c.in_ok-answered.answered without (ap (map program_of) c.as_slice.ensures ∙ c.in_ok-graph.ensures.programs) c.in_ok-graph.ensures.order
    c.in_ok-answered.ensures is) c.answer_without.ensures
