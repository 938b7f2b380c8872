use Rattle.std.proofs.Common.{◌≡◌, drop}
use Rattle.cnf.specs.Clauses.{has_lit}
use Rattle.proof_check.proofs.steps.stands.Given as goal

abbrev pub invariant-loop-l : goal.invariant-loop-l
invariant-loop-l l = has_lit (drop l.l-index l.lits) l.lit ≡ has_lit l.lits l.lit
