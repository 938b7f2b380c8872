use Rattle.std.proofs.Common.{◌≡◌, ◌++◌, ◌∷◌, [], take}
use Rattle.std.specs.Prelude.{decimal}
use Rattle.std.specs.List.{flat_map}
use Rattle.cnf.specs.ProofText.{lit_word}
use Rattle.cnf.proofs.text.push_links.Given as goal

abbrev pub invariant-loop-link : goal.invariant-loop-link
invariant-loop-link l = l.out.items ≡ l.initial.out.items ++ flat_map (λ k. decimal k.number ++ (32 ∷ (lit_word k.pivot ++ 32 ∷ []))) (take l.link-index l.links)
