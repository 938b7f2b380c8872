use Rattle.std.proofs.Common.{◌≡◌, ◌++◌, take, map}
use Rattle.cnf.specs.Store.{index_of}
use Rattle.cnf.proofs.formula.push_literals.Given as goal

abbrev pub invariant-loop-lit : goal.invariant-loop-lit
invariant-loop-lit l = l.literals.items ≡ l.initial.literals.items ++ map index_of (take l.lit-index l.lits)
