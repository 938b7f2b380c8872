use Rattle.std.proofs.Common.{◌≡◌, drop}
use Rattle.compiled_attributes.specs.Places.{with_places}
use Rattle.compiled_attributes.proofs.fragments.add_places.Given as goal

-- those that are put, with those that are left
abbrev pub invariant-loop-place : goal.invariant-loop-place
invariant-loop-place l = with_places l.places.keys (drop l.place-index l.more) ≡ with_places l.fn.places.keys l.more
