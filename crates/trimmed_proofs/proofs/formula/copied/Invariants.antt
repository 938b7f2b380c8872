use Rattle.std.proofs.Common.{◌≡◌, take}
use Rattle.trimmed_proofs.proofs.formula.copied.Given as goal

-- the clauses so far
abbrev pub invariant-loop-i : goal.invariant-loop-i
invariant-loop-i l = l.copy ≡ record { vars = l.cnf.vars; clauses = take l.i l.cnf.clauses }
