use Rattle.std.proofs.Common.{◌≡◌, ◌++◌, take}
use Rattle.std.specs.List.{AllByRecursion, flat_map}
use Rattle.cnf.specs.ProofText.{proof_text}
use Rattle.verdict_report.specs.Told.{IsProved}
use Rattle.verdict_report.proofs.proofs.push_proofs.Given as goal

-- the proofs so far
abbrev pub invariant-loop-verified : goal.invariant-loop-verified
invariant-loop-verified l =
    (l.into.items ≡ l.initial.into.items ++ flat_map (λ p. proof_text p.formula p.steps) (take l.verified-index l.proofs))
    × AllByRecursion IsProved (take l.verified-index l.proofs)
