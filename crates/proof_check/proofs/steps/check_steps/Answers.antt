use Rattle.std.proofs.Common.{ℕ, ◌≡◌, ◌+◌, take, sym, ap, ◌∙◌, subst, arith}
use Rattle.cnf.specs.Clauses.{HasVariables}
use Rattle.proof_check.specs.declared.fault.Cause.{Cause}
use Rattle.proof_check.specs.LitSets.{Gathered}
use Rattle.proof_check.specs.Joining.{earlier_of, AreClean}
use Rattle.proof_check.specs.Faults.{StepFails, FirstFault}
use Rattle.proof_check.proofs.Numbers.{clean_formula}
use Rattle.proof_check.proofs.Chains.{right_more, fault_more, fault_here, clean_more, right_none, fault_none, located}
use Rattle.proof_check.proofs.steps.check_steps.Goals as goal

pub loop-i-init : goal.loop-i-init
loop-i-init c = record {
  vars = ap (λ (m : Gathered). m.vars) c.new-set.ensures ∙ c.vars.ensures.count;
  empty = ap (λ (m : Gathered). m.lits) c.new-set.ensures;
  clean = clean_formula c.args.cnf.now c.vars.ensures.formula;
  right = right_none c.args.cnf.now c.args.steps.now;
  fails = fault_none c.args.cnf.now c.args.steps.now;
}

pub check_step-requires-clause-clean : goal.check_step-requires-clause-clean
check_step-requires-clause-clean c =
    subst (λ (n : ℕ). AreClean n (earlier_of c.args.cnf.now (take c.loop-i.i c.args.steps.now))) (sym c.loop-i.invariant.vars) c.loop-i.invariant.clean

pub loop-i-preserved : goal.loop-i-preserved
loop-i-preserved c =
    let f = c.args.cnf.now in
    let steps = c.args.steps.now in
    let i = c.loop-i.i in
    let inv = c.loop-i.invariant in
    let s = c.index-steps-i.result in
    let at = c.index-steps-i.is in
    let right = c.in-Ok.ensures.ok in
    let variables = subst (λ (n : ℕ). HasVariables n s.clause) inv.vars c.in-Ok.ensures.variables in
    record {
      vars = c.in-Ok.ensures.vars ∙ inv.vars;
      empty = c.in-Ok.ensures.empty;
      clean = clean_more f steps i (omega arith) s at f.vars inv.clean c.in-Ok.ensures.clause variables;
      right = λ rest. inv.right (right_more f steps i (omega arith) s at right rest);
      fails = λ n cause rest.
          let e : n + 1 + i ≡ n + (i + 1) = omega arith in
          subst (λ (m : ℕ). FirstFault f.clauses steps m cause) e (inv.fails (n + 1) cause (fault_more f steps i (omega arith) s at n cause right rest));
    }

pub returns-in-Err-clause-fails : goal.returns-in-Err-clause-fails
returns-in-Err-clause-fails c =
    let f = c.args.cnf.now in
    let steps = c.args.steps.now in
    let i = c.loop-i.i in
    let s = c.index-steps-i.result in
    located (i + 1) c.in-Err.fault c.locate.result (StepFails (earlier_of f (take i steps)) s) (λ n cause. FirstFault f.clauses steps n cause) c.locate.ensures c.in-Err.ensures.fails
    (λ (cause : Cause) h.
    let e : 1 + i ≡ i + 1 = omega arith in
    subst (λ (m : ℕ). FirstFault f.clauses steps m cause) e (c.loop-i.invariant.fails 1 cause (fault_here f steps i (omega arith) s c.index-steps-i.is cause h)))
