use Rattle.std.proofs.Common.{◌≡◌, ◌++◌, ◌∷◌, [], take}
use Rattle.std.specs.List.{flat_map}
use Rattle.cnf.specs.Formulas.{clause_at}
use Rattle.cnf.specs.ProofText.{lit_word}
use Rattle.cnf.proofs.text.push_clause.Given as goal

abbrev pub invariant-loop-k : goal.invariant-loop-k
invariant-loop-k l = l.out.items ≡ l.initial.out.items ++ flat_map (λ x. lit_word x ++ 32 ∷ []) (take l.k (clause_at l.cnf l.i))
