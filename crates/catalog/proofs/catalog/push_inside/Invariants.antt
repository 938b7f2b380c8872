use Rattle.std.proofs.Common.{◌≡◌, ◌++◌, drop}
use Rattle.catalog.specs.Members.{inside}
use Rattle.catalog.proofs.catalog.push_inside.Given as goal

abbrev pub invariant-loop-r : goal.invariant-loop-r
invariant-loop-r l = (l.place ≡ l.r-index) × (l.into ++ inside l.outer l.place (drop l.r-index l.resources) ≡ l.initial.into ++ inside l.outer 0 l.resources)
