use Rattle.std.proofs.Common.{List, [], length, sym, ap, ◌∙◌, ◌≡◌}
use Rattle.std.proofs.lemmas.Bool.{OnTrue_from, OnFalse_from, eqb-true, eqb-false}
use Rattle.std.proofs.lemmas.List.{nil_from_length}
use Rattle.cnf.specs.declared.lit.Lit.{Lit}
use Rattle.cnf.specs.declared.log.Step.{Step}
use Rattle.cnf.specs.Proofs.{EndsEmpty}
use Rattle.proof_check.specs.Faults.{EndsFull}
use Rattle.proof_check.proofs.Chains.{ends_at_last, ends_full_at_last}
use Rattle.proof_check.proofs.steps.ends_empty.Goals as goal

pub returns-clause-empty : goal.returns-clause-empty
returns-clause-empty c =
    let s = c.index-steps-last.result in
    OnTrue_from c.is_empty-empty.result (EndsEmpty c.args.steps.now) (λ h.
    ends_at_last c.args.steps.now s c.requires c.index-steps-last.is
    (ap (λ (x : Step). x.clause) c.index-steps-last.is ∙ sym c.lits.ensures.lits ∙ nil_from_length c.lits.result.now (eqb-true (length c.lits.result.now) 0 (sym c.is_empty-empty.ensures ∙ h))))

pub returns-clause-full : goal.returns-clause-full
returns-clause-full c =
    let s = c.index-steps-last.result in
    OnFalse_from c.is_empty-empty.result (EndsFull c.args.steps.now) (λ h.
    ends_full_at_last c.args.steps.now s c.requires c.index-steps-last.is
    (λ (e : s.clause ≡ []). eqb-false (length c.lits.result.now) 0 (sym c.is_empty-empty.ensures ∙ h)
    (ap (λ (x : List Lit). length x) (c.lits.ensures.lits ∙ ap (λ (x : Step). x.clause) (sym c.index-steps-last.is) ∙ e))))
