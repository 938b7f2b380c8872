use Rattle.std.proofs.Common.{map, ◌∙◌}
use Rattle.std.proofs.lemmas.Result.{IfOk-weaker}
use Rattle.std.proofs.lemmas.List.{length-map}
use Rattle.fs_lang.specs.Meaning.{program_of}
use Rattle.success.proofs.EndLaws.{states, never, shown}
use Rattle.success.proofs.asking.end_question.Goals as goal

pub returns-clause-states : goal.returns-clause-states
returns-clause-states c = IfOk-weaker c.ask_some.result _ _ (λ q exact.
    states c.domains.ensures.laid_out c.shadows.ensures.exist c.shadows.ensures.tell (map program_of c.args.plan.now.programs.now) c.args.plan.now.order.now c.in_ok-d.d c.in_ok-d.ensures.layout
    q.formula exact) c.ask_some.ensures.exact

pub returns-clause-never : goal.returns-clause-never
returns-clause-never c = IfOk-weaker c.ask_some.result _ _ (λ q exact.
    never c.domains.ensures.laid_out c.shadows.ensures.exist c.shadows.ensures.tell (map program_of c.args.plan.now.programs.now) c.args.plan.now.order.now c.in_ok-d.d c.in_ok-d.ensures.layout
    q.formula exact (length-map c.args.plan.now.programs.now program_of ∙ c.args.plan.now.count) c.requires
    c.has_first_extension.ensures.first (record { allowed = c.has_first_extension.ensures.allowed; least = c.has_first_extension.ensures.least })) c.ask_some.ensures.exact

pub returns-clause-models : goal.returns-clause-models
returns-clause-models c = IfOk-weaker c.ask_some.result _ _ (λ q models w told.
    shown (map program_of c.args.plan.now.programs.now) c.args.plan.now.order.now c.in_ok-d.d w (models w told)) c.ask_some.ensures.models
