use Rattle.std.proofs.Common.{◌≡◌, ◌-◌}
use Rattle.proof_check.specs.WordReading.{with_front, clauses_in}
use Rattle.proof_check.proofs.text.clauses.Given as goal

abbrev pub invariant-loop-clause : goal.invariant-loop-clause
invariant-loop-clause l = (l.cnf.vars ≡ l.vars) × (with_front l.cnf.clauses (clauses_in l.vars (l.count - l.clause) l.words) ≡ clauses_in l.vars l.count l.initial.words)
