use Rattle.std.proofs.Common.{◌≡◌, ◌+◌, List, drop}
use Rattle.cnf.specs.declared.lit.Lit.{Lit}
use Rattle.cnf.specs.Proofs.{Leads}
use Rattle.proof_check.specs.declared.fault.Cause.{Cause}
use Rattle.proof_check.specs.Joining.{earlier_of}
use Rattle.proof_check.specs.Faults.{ChainFails}
use Rattle.proof_check.proofs.steps.follow_chain.Given as goal

abbrev pub invariant-loop-i : goal.invariant-loop-i
invariant-loop-i l = record {
  vars : l.set.vars ≡ l.initial.set.vars;
  leads : (d : List Lit) → Leads (earlier_of l.cnf l.steps) l.set.lits (drop l.i l.chain) d → Leads (earlier_of l.cnf l.steps) l.initial.set.lits l.chain d;
  fails : (wanted : List Lit) (cause : Cause) → ChainFails (earlier_of l.cnf l.steps) wanted l.set.lits (drop l.i l.chain) (l.i + 1) cause → ChainFails (earlier_of l.cnf l.steps) wanted l.initial.set.lits l.chain 1 cause;
}
