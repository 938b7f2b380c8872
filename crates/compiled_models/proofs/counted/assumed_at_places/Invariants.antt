use Rattle.std.proofs.Common.{◌≡◌, ◌++◌, drop, map}
use Rattle.compiled_models.specs.Assumed.{is_assumed_at}
use Rattle.compiled_models.proofs.counted.assumed_at_places.Given as goal

-- the marks so far, with those of the places that are left
abbrev pub invariant-loop-place : goal.invariant-loop-place
invariant-loop-place l = l.marks ++ map (is_assumed_at l.texts.resources l.assumptions) (drop l.place-index l.plain) ≡ map (is_assumed_at l.texts.resources l.assumptions) l.plain
