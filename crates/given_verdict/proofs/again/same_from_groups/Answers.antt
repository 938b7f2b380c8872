use Rattle.std.proofs.Common.{◌≡◌, map, length, sym, ap, subst, subst₂, ◌∙◌}
use Rattle.std.proofs.lemmas.List.{length-map}
use Rattle.fs_semantics.specs.Orders.{Told, IsDeterministic, IsIdempotent}
use Rattle.fs_lang.specs.Meaning.{program_of}
use Rattle.orders.specs.Relation.{comes}
use Rattle.given_hosts.specs.Guard.{guard_before, GoesFirst}
use Rattle.second_runs.specs.Questions.{IsSecondProof}
use Rattle.given_verdict.specs.Second.{IsSettledFrom}
use Rattle.given_verdict.proofs.BehindLaws.{stated_by_any}
use Rattle.given_verdict.proofs.GroupLaws.{both_of_some}
use Rattle.given_verdict.proofs.again.same_from_groups.Goals as goal

pub same_in_groups-requires-clause-deterministic : goal.same_in_groups-requires-clause-deterministic
same_in_groups-requires-clause-deterministic c =
    let es = map program_of c.args.asked.now.plan.now.programs.now in
    let order = c.args.asked.now.plan.now.order.now in
    let long : length es ≡ order.count = length-map c.args.asked.now.plan.now.programs.now program_of ∙ c.args.asked.now.plan.now.count in
    let goes = subst (λ n. GoesFirst n (comes order) (guard_before order.count (comes order))) (sym long) (c.guards.ensures.goes order.count (comes order)) in
    subst₂ (λ fs before. IsDeterministic fs (Told before)) (sym (ap (map program_of) c.as_slice.ensures ∙ c.in_ok-graph.ensures.programs)) (sym c.in_ok-graph.ensures.order)
    ((c.guarded_graphs.ensures.deterministic c.args.asked.now.given.now es (comes order) (guard_before order.count (comes order)) goes).1 c.requires.deterministic)

pub groups_from-requires-clause-first : goal.groups_from-requires-clause-first
groups_from-requires-clause-first c =
    let es = map program_of c.args.asked.now.plan.now.programs.now in
    let order = c.args.asked.now.plan.now.order.now in
    let long : length es ≡ order.count = length-map c.args.asked.now.plan.now.programs.now program_of ∙ c.args.asked.now.plan.now.count in
    let goes = subst (λ n. GoesFirst n (comes order) (guard_before order.count (comes order))) (sym long) (c.guards.ensures.goes order.count (comes order)) in
    (comes order, subst (GoesFirst (length es) (comes order)) (sym c.in_ok-graph.ensures.order) goes)

pub returns : goal.returns
returns c =
    let es = map program_of c.args.asked.now.plan.now.programs.now in
    let given = c.args.asked.now.given.now in
    let order = c.args.asked.now.plan.now.order.now in
    let fs = map program_of c.as_slice.result.now in
    let graph = c.in_ok-graph.graph.order in
    let long : length es ≡ order.count = length-map c.args.asked.now.plan.now.programs.now program_of ∙ c.args.asked.now.plan.now.count in
    let goes = subst (λ n. GoesFirst n (comes order) (guard_before order.count (comes order))) (sym long) (c.guards.ensures.goes order.count (comes order)) in
    both_of_some (λ v. IsIdempotent fs (Told (comes graph))) (λ v. IsSecondProof fs graph v.formula) (λ v. IsSettledFrom given es order v.formula)
    (λ v same proof.
    let settled = c.guarded_graphs.ensures.idempotent given es (comes order) (guard_before order.count (comes order)) goes
    (subst₂ (λ gs before. IsIdempotent gs (Told before)) (ap (map program_of) c.as_slice.ensures ∙ c.in_ok-graph.ensures.programs) c.in_ok-graph.ensures.order same) in
    (settled, stated_by_any given es order v.formula settled proof.no_model))
    c.in_ok-found.found c.in_ok-found.ensures.same c.in_ok-found.ensures.proved
