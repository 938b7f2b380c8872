use Rattle.std.proofs.Common.{◌≡◌, drop}
use Rattle.cnf.specs.Clauses.{HasVariables, without}
use Rattle.proof_check.specs.Joining.{joined}
use Rattle.proof_check.proofs.steps.join.Given as goal

abbrev pub invariant-loop-lit : goal.invariant-loop-lit
invariant-loop-lit l = record {
  vars : l.set.vars ≡ l.initial.set.vars;
  left : HasVariables l.initial.set.vars (drop l.lit-index l.lits);
  lits : joined l.set.lits (without l.skip (drop l.lit-index l.lits)) ≡ joined l.initial.set.lits (without l.skip l.lits);
}
