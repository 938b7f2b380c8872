use Rattle.std.proofs.Common.{◌≡◌, ◌++◌, map}
use Rattle.compiled_attributes.specs.Places.{at_places}
use Rattle.compiled_attributes.proofs.fragments.at_places.Given as goal

-- those that are found, with those that are left
abbrev pub invariant-loop-place : goal.invariant-loop-place
invariant-loop-place l = map (λ r. r.now) l.found.items ++ at_places l.resources l.place-iterator ≡ at_places l.resources l.places.keys
