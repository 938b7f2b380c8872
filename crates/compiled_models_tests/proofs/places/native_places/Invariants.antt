use Rattle.std.proofs.Common.{◌<◌, length}
use Rattle.std.specs.List.{AllByRecursion}
use Rattle.compiled_models_tests.proofs.places.native_places.Given as goal

-- the places so far are places of both
abbrev pub invariant-loop-place : goal.invariant-loop-place
invariant-loop-place l = AllByRecursion (λ i. i < length l.texts.resources) l.plain × AllByRecursion (λ i. i < length l.catalog.resources) l.plain
