use Rattle.std.proofs.Common.{subst}
use Rattle.std.proofs.lemmas.Result.{err_from_is_err_and}
use Rattle.rh_base.specs.Refused.{IfRefused}
use Rattle.rehearsal_core.specs.Verified.{BreaksProofRule}
use Rattle.rehearsal_core.proofs.run.checked.Goals as goal

pub returns-in_err-told-clause-refused : goal.returns-in_err-told-clause-refused
returns-in_err-told-clause-refused c =
    let p = err_from_is_err_and c.from_residual.result c.from_residual.ensures.1 in
    rw (p.1, p.2) (subst (λ bytes. IfRefused c.in_err-told.field-0.0 (BreaksProofRule bytes)) c.input-text.ensures c.in_err-told.ensures.refused)
