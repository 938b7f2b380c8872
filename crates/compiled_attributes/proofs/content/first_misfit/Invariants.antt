use Rattle.std.proofs.Common.{◌≡◌, map, drop}
use Rattle.compiled_attributes.specs.Fragments.{first_misfit}
use Rattle.compiled_attributes.proofs.content.first_misfit.Given as goal

-- none of those before has one
abbrev pub invariant-loop-r : goal.invariant-loop-r
invariant-loop-r l = first_misfit (map (λ r. r.now) (drop l.r-index l.rs)) ≡ first_misfit (map (λ r. r.now) l.rs)
