use Rattle.std.proofs.Common.{map, ◌∙◌, subst}
use Rattle.std.proofs.lemmas.Result.{IfOk-weaker}
use Rattle.std.specs.Prelude.{◌↔◌}
use Rattle.std.proofs.lemmas.List.{length-map}
use Rattle.cnf.specs.Formulas.{IsSatisfiable}
use Rattle.fs_lang.specs.Meaning.{program_of}
use Rattle.order_encode.specs.Parting.{HaveParting, ShowsParting}
use Rattle.equal_graphs.proofs.PartLaws.{states, equal, shown}
use Rattle.equal_graphs.proofs.asking.parting_question.Goals as goal

pub returns-clause-states : goal.returns-clause-states
returns-clause-states c = IfOk-weaker c.ask_parting.result _ _ (λ q held.
    let es = map program_of c.args.left.now.programs.now in
    let fs = map program_of c.args.right.now.programs.now in
    let first = c.has_first_extension.ensures in
    let second = c.has_first_extension-2.ensures in
    let asked = c.in_ok-asked.asked in
    let f = q.formula in
    let exact = subst (λ q. IsSatisfiable f ↔ HaveParting es asked.left fs q c.in_ok-domain.domain) c.as_slice.ensures held in
    states es c.args.left.now.order.now fs c.args.right.now.order.now (length-map c.args.left.now.programs.now program_of ∙ c.args.left.now.count) (length-map c.args.right.now.programs.now program_of ∙ c.args.right.now.count)
    c.requires.left_sure c.requires.right_sure first.first second.first
    (record { allowed = first.allowed; least = first.least }) (record { allowed = second.allowed; least = second.least })
    asked.left asked.right c.in_ok-asked.ensures.left c.in_ok-asked.ensures.right
    c.domains.ensures.laid_out c.shadows.ensures.exist c.shadows.ensures.tell c.in_ok-domain.domain c.in_ok-domain.ensures.layout f exact) c.ask_parting.ensures.exact

pub returns-clause-equal : goal.returns-clause-equal
returns-clause-equal c = IfOk-weaker c.ask_parting.result _ _ (λ q held.
    let es = map program_of c.args.left.now.programs.now in
    let fs = map program_of c.args.right.now.programs.now in
    let first = c.has_first_extension.ensures in
    let second = c.has_first_extension-2.ensures in
    let asked = c.in_ok-asked.asked in
    let f = q.formula in
    let exact = subst (λ q. IsSatisfiable f ↔ HaveParting es asked.left fs q c.in_ok-domain.domain) c.as_slice.ensures held in
    equal es c.args.left.now.order.now fs c.args.right.now.order.now (length-map c.args.left.now.programs.now program_of ∙ c.args.left.now.count) (length-map c.args.right.now.programs.now program_of ∙ c.args.right.now.count)
    c.requires.left_sure c.requires.right_sure first.first second.first
    (record { allowed = first.allowed; least = first.least }) (record { allowed = second.allowed; least = second.least })
    asked.left asked.right c.in_ok-asked.ensures.left c.in_ok-asked.ensures.right
    c.domains.ensures.laid_out c.shadows.ensures.exist c.shadows.ensures.tell c.in_ok-domain.domain c.in_ok-domain.ensures.layout f exact) c.ask_parting.ensures.exact

pub returns-clause-models : goal.returns-clause-models
returns-clause-models c = IfOk-weaker c.ask_parting.result _ _ (λ q models w told.
    let es = map program_of c.args.left.now.programs.now in
    let fs = map program_of c.args.right.now.programs.now in
    let first = c.has_first_extension.ensures in
    let second = c.has_first_extension-2.ensures in
    let asked = c.in_ok-asked.asked in
    let part = subst (λ q. ShowsParting es asked.left fs q c.in_ok-domain.domain w) c.as_slice.ensures (models w told) in
    shown es c.args.left.now.order.now fs c.args.right.now.order.now (length-map c.args.left.now.programs.now program_of ∙ c.args.left.now.count) (length-map c.args.right.now.programs.now program_of ∙ c.args.right.now.count)
    c.requires.left_sure c.requires.right_sure first.first second.first
    (record { allowed = first.allowed; least = first.least }) (record { allowed = second.allowed; least = second.least })
    asked.left asked.right c.in_ok-asked.ensures.left c.in_ok-asked.ensures.right c.in_ok-domain.domain w part) c.ask_parting.ensures.models
