use Rattle.std.proofs.Common.{map, ◌∙◌}
use Rattle.std.proofs.lemmas.Result.{IfOk-weaker}
use Rattle.std.proofs.lemmas.List.{length-map}
use Rattle.fs_lang.specs.Meaning.{program_of}
use Rattle.orders.specs.Relation.{comes}
use Rattle.ensured_entry.proofs.MissingLaws.{states, ensured, shown}
use Rattle.ensured_entry.proofs.missing.missing_question.Goals as goal

pub returns-clause-states : goal.returns-clause-states
returns-clause-states c = IfOk-weaker c.ask_missing.result _ _ (λ q exact.
    states c.domains.ensures.laid_out c.wanted_entries.ensures.over (map program_of c.args.plan.now.programs.now) c.args.plan.now.order.now c.args.wanted.now c.in_ok-domain.domain c.in_ok-domain.ensures.layout
    q.formula exact) c.ask_missing.ensures.exact

pub returns-clause-ensured : goal.returns-clause-ensured
returns-clause-ensured c = IfOk-weaker c.ask_missing.result _ _ (λ q exact.
    let es = map program_of c.args.plan.now.programs.now in
    ensured c.domains.ensures.laid_out c.wanted_entries.ensures.over es c.args.plan.now.order.now c.args.wanted.now c.in_ok-domain.domain c.in_ok-domain.ensures.layout
    q.formula exact (length-map c.args.plan.now.programs.now program_of ∙ c.args.plan.now.count) c.requires.deterministic
    c.has_first_extension.ensures.first (record { allowed = c.has_first_extension.ensures.allowed; least = c.has_first_extension.ensures.least })
    (c.wanted_entries.ensures.exactly es (comes c.args.plan.now.order.now) c.args.wanted.now)) c.ask_missing.ensures.exact

pub returns-clause-models : goal.returns-clause-models
returns-clause-models c = IfOk-weaker c.ask_missing.result _ _ (λ q models w told.
    shown (map program_of c.args.plan.now.programs.now) c.args.plan.now.order.now c.in_ok-domain.domain c.args.wanted.now w (models w told)) c.ask_missing.ensures.models
