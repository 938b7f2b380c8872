use Rattle.std.proofs.Common.{◌≡◌, ◌+◌, ℕ, [], take, drop}
use Rattle.cnf.specs.Proofs.{AreRight}
use Rattle.proof_check.specs.declared.fault.Cause.{Cause}
use Rattle.proof_check.specs.Joining.{earlier_of, AreClean}
use Rattle.proof_check.specs.Faults.{FirstFault}
use Rattle.proof_check.proofs.steps.check_steps.Given as goal

abbrev pub invariant-loop-i : goal.invariant-loop-i
invariant-loop-i l = record {
  vars : l.set.vars ≡ l.cnf.vars;
  empty : l.set.lits ≡ [];
  clean : AreClean l.cnf.vars (earlier_of l.cnf (take l.i l.steps));
  right : AreRight (earlier_of l.cnf (take l.i l.steps)) (drop l.i l.steps) → AreRight l.cnf.clauses l.steps;
  fails : (n : ℕ) (cause : Cause) → FirstFault (earlier_of l.cnf (take l.i l.steps)) (drop l.i l.steps) n cause → FirstFault l.cnf.clauses l.steps (n + l.i) cause;
}
