use Rattle.cnf.specs.Defining.{Encodes}
use Rattle.cnf.proofs.encode.encode.Given as goal

abbrev pub invariant-loop-turn : goal.invariant-loop-turn
invariant-loop-turn l = Encodes l.circuit l.needed l._turn l.lits.items l.cnf
