use Rattle.std.proofs.Common.{◌≡◌, ℕ, List, ◌++◌, drop}
use Rattle.compiled_attributes.specs.Fragments.{is_for}
use Rattle.compiled_attributes.specs.Places.{places_where, places_in}
use Rattle.compiled_attributes.proofs.fragments.by_target.Given as goal

-- for each target the places so far, with those that are left
abbrev pub invariant-loop-place : goal.invariant-loop-place
invariant-loop-place l = (x : List ℕ) → places_in l.table.entries x ++ places_where (is_for x) l.place (drop l.place l.resources) ≡ places_where (is_for x) 0 l.resources
