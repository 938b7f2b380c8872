use Rattle.std.proofs.Common.{◌≡◌, ◌≢◌, sym, ◌∙◌, subst}
use Rattle.std.proofs.lemmas.Bool.{OnFalse_at}
use Rattle.proof_check.specs.Joining.{earlier_of}
use Rattle.proof_check.specs.Faults.{LeadsTo}
use Rattle.proof_check.proofs.Chains.{step_fails}
use Rattle.proof_check.proofs.steps.check_step.Goals as goal

pub returns-then-not-same-clause-fails : goal.returns-then-not-same-clause-fails
returns-then-not-same-clause-fails c =
    let earlier = earlier_of c.args.cnf.now c.args.steps.now in
    let d = c.in_ok-clause.clause in
    let leads = subst (LeadsTo earlier c.args.step.now) (sym c.in_ok-clause.ensures.clause) c.in-Ok.ensures.ok in
    let differs : c.lits.result.now ≢ c.lits-2.result.now = OnFalse_at c.if-not-same.true c.same_lits-same.ensures.differs in
    step_fails earlier c.args.step.now d leads (λ (e : d ≡ c.args.step.now.clause). differs (c.lits.ensures.lits ∙ e ∙ sym c.lits-2.ensures.lits))
