use Rattle.std.proofs.Common.{◌≡◌, map, take}
use Rattle.std.specs.Prelude.{slice_get}
use Rattle.reports.specs.Explanations.{placed_name}
use Rattle.reports.proofs.explanations.compiled_names.Given as goal

-- the names so far
abbrev pub invariant-loop-place : goal.invariant-loop-place
invariant-loop-place l = l.names ≡ map (λ k. placed_name l.catalog k (slice_get l.compiled.resources k)) (take l.place-index l.plain)
