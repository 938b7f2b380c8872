use Rattle.std.proofs.Common.{map, ◌∙◌}
use Rattle.std.proofs.lemmas.Result.{IfOk-weaker}
use Rattle.std.proofs.lemmas.List.{length-map}
use Rattle.fs_lang.specs.Meaning.{program_of}
use Rattle.orders.specs.Relation.{comes}
use Rattle.second_runs.proofs.SecondLaws.{states, idempotent, change}
use Rattle.second_runs.proofs.second.second_question.Goals as goal

pub returns-clause-states : goal.returns-clause-states
returns-clause-states c = IfOk-weaker c.ask_twice.result _ _ (λ q exact.
    states c.domains.ensures.laid_out c.witnesses_over_the_domain.ensures.second (map program_of c.args.plan.now.programs.now) c.args.plan.now.order.now c.in_ok-d.d c.in_ok-d.ensures.layout
    q.formula exact) c.ask_twice.ensures.exact

pub returns-clause-same : goal.returns-clause-same
returns-clause-same c = IfOk-weaker c.ask_twice.result _ _ (λ q exact.
    let es = map program_of c.args.plan.now.programs.now in
    idempotent c.domains.ensures.laid_out c.witnesses_over_the_domain.ensures.second es c.args.plan.now.order.now c.in_ok-d.d c.in_ok-d.ensures.layout
    q.formula exact c.constructs.ensures.tree c.are_proper.ensures (length-map c.args.plan.now.programs.now program_of ∙ c.args.plan.now.count) c.requires
    c.has_first_extension.ensures.first (record { allowed = c.has_first_extension.ensures.allowed; least = c.has_first_extension.ensures.least })
    (c.counterexamples.ensures.idempotent es (comes c.args.plan.now.order.now) c.are_proper.ensures c.requires)) c.ask_twice.ensures.exact

pub returns-clause-models : goal.returns-clause-models
returns-clause-models c = IfOk-weaker c.ask_twice.result _ _ (λ q models w shown.
    change (map program_of c.args.plan.now.programs.now) c.args.plan.now.order.now c.in_ok-d.d w (models w shown)) c.ask_twice.ensures.models
