use Rattle.std.proofs.Common.{◌≡◌, ◌++◌, ◌∷◌, [], take}
use Rattle.std.specs.List.{flat_map}
use Rattle.cnf.specs.ProofText.{lit_word}
use Rattle.cnf.proofs.text.push_lits.Given as goal

abbrev pub invariant-loop-lit : goal.invariant-loop-lit
invariant-loop-lit l = l.out.items ≡ l.initial.out.items ++ flat_map (λ x. lit_word x ++ 32 ∷ []) (take l.lit-index l.lits)
