use Rattle.std.proofs.Common.{Some, rules, sym, ap, ◌∙◌}
use Rattle.sym_run.proofs.AlikeLaws.{pointwise_same}
use Rattle.sym_run.proofs.comparison.has_same_code.Goals as goal

pub returns : goal.returns
returns c = λ h.
    let same = pointwise_same _ c.as_slice.result.now c.as_slice-2.result.now (sym c.eq.ensures ∙ h) (λ x y e. search rules) in
    c.at.ensures ∙ ap Some (sym c.as_slice.ensures ∙ same ∙ c.as_slice-2.ensures) ∙ sym c.at-2.ensures
