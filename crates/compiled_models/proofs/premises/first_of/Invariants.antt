use Rattle.std.proofs.Common.{◌≡◌, drop}
use Rattle.compiled_models.specs.Hosts.{first_of}
use Rattle.compiled_models.proofs.premises.first_of.Given as goal

-- what the first of those that are left says is what the first of all does
abbrev pub invariant-loop-k : goal.invariant-loop-k
invariant-loop-k l = first_of l.place (drop l.k l.places) (drop l.k l.rows) ≡ first_of l.place l.places l.rows
