use Rattle.std.proofs.Common.{◌≡◌, ◌++◌, drop}
use Rattle.compiled_models.specs.Assumed.{places_of}
use Rattle.compiled_models.proofs.premises.places_of.Given as goal

-- the places so far, with those of the assumptions that are left
abbrev pub invariant-loop-row : goal.invariant-loop-row
invariant-loop-row l = l.places ++ places_of l.index (drop l.row-index l.rows) ≡ places_of l.index l.rows
