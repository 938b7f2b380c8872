use Rattle.std.proofs.Common.{map}
use Rattle.std.proofs.lemmas.Result.{IfOk-weaker}
use Rattle.fs_lang.specs.Meaning.{program_of}
use Rattle.orders.specs.Relation.{comes}
use Rattle.fs_semantics.specs.Orders.{Told}
use Rattle.determinism.proofs.QuestionLaws.{states, none_differ, difference}
use Rattle.determinism.proofs.asking.question_over.Goals as goal

pub returns-clause-states : goal.returns-clause-states
returns-clause-states c = IfOk-weaker c.ask_order.result _ _ (λ q exact.
    states c.domains.ensures.laid_out c.witnesses_over_the_domain.ensures.orders (map program_of c.args.plan.now.programs.now) (comes c.args.plan.now.order.now) c.args.d.now c.requires.layout
    q.formula exact) c.ask_order.ensures.exact

pub returns-clause-sure : goal.returns-clause-sure
returns-clause-sure c = IfOk-weaker c.ask_order.result _ _ (λ q exact.
    let es = map program_of c.args.plan.now.programs.now in
    none_differ c.domains.ensures.laid_out c.witnesses_over_the_domain.ensures.orders es (comes c.args.plan.now.order.now) c.args.d.now c.requires.layout
    q.formula exact (c.counterexamples.ensures.deterministic es (comes c.args.plan.now.order.now)).1) c.ask_order.ensures.exact

pub returns-clause-models : goal.returns-clause-models
returns-clause-models c = IfOk-weaker c.ask_order.result _ _ (λ q models w shown.
    difference (map program_of c.args.plan.now.programs.now) (Told (comes c.args.plan.now.order.now)) c.args.d.now w (models w shown)) c.ask_order.ensures.models
