use Rattle.std.proofs.Common.{map, ap, subst, ◌∙◌}
use Rattle.std.proofs.lemmas.Result.{IfOk-weaker}
use Rattle.std.specs.Prelude.{◌↔◌}
use Rattle.fs_lang.specs.Meaning.{program_of}
use Rattle.finite_domain.specs.Layouts.{IsLayout}
use Rattle.path_domain.specs.Laid.{layout_of}
use Rattle.cnf.specs.Formulas.{IsSatisfiable}
use Rattle.order_encode.specs.Witnesses.{HasSecondChange}
use Rattle.second_runs.proofs.GroupLaws.{settles}
use Rattle.second_runs.proofs.groups.group_question.Goals as goal

pub returns : goal.returns
returns c = IfOk-weaker c.ask_twice.result _ _ (λ q asked.
    let es = map program_of c.args.programs.now in
    let order = c.in_ok-order.order in
    let d = c.in_ok-d.d in
    let f = q.formula in
    let laid = subst (λ xs. IsLayout xs (layout_of d)) (ap (map program_of) c.as_slice.ensures ∙ c.in_ok-some.ensures) c.in_ok-d.ensures.layout in
    let exact = subst (λ xs. IsSatisfiable f ↔ HasSecondChange xs order d) (ap (map program_of) c.as_slice-2.ensures ∙ c.in_ok-some.ensures) asked in
    settles c.domains.ensures.laid_out c.witnesses_over_the_domain.ensures.second c.linear_extensions.ensures.unordered es c.args.group.now order c.in_ok-order.ensures.free c.in_ok-order.ensures.count d laid f exact) c.ask_twice.ensures.exact
