use Rattle.std.proofs.Common.{List, subst}
use Rattle.cnf.specs.declared.log.Step.{Step}
use Rattle.cnf.specs.Proofs.{AreRight, EndsEmpty}
use Rattle.proof_check.specs.Causes.{IfBad}
use Rattle.proof_check.specs.Faults.{FirstFault, EndsFull}
use Rattle.proof_check.proofs.Chains.{no_model, if_bad_only, full_refuses}
use Rattle.proof_check.proofs.steps.check.Goals as goal

pub returns-in-Err-clause-bad_only : goal.returns-in-Err-clause-bad_only
returns-in-Err-clause-bad_only c =
    if_bad_only c.args.cnf c.args.log.steps c.in-Err.fault
    (subst (λ (ss : List Step). IfBad c.in-Err.fault (λ n cause. FirstFault c.args.cnf.clauses ss n cause)) c.as_slice-steps.ensures c.in-Err.ensures.fails)

pub returns-then-not-ends_empty-clause-bad_only : goal.returns-then-not-ends_empty-clause-bad_only
returns-then-not-ends_empty-clause-bad_only c =
    full_refuses c.args.cnf c.args.log.steps (subst EndsFull c.as_slice-steps.ensures c.if-not-ends_empty.ensures.full)

pub returns-clause-no_model : goal.returns-clause-no_model
returns-clause-no_model c =
    no_model c.args.cnf c.args.log.steps (record {
      right = subst (AreRight c.args.cnf.clauses) c.as_slice-steps.ensures c.in-Ok.ensures.ok;
      ends = subst EndsEmpty c.as_slice-steps.ensures c.if-not-ends_empty.ensures.empty;
    })
