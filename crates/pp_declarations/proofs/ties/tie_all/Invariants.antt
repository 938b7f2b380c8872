use Rattle.std.proofs.Common.{◌≡◌, drop}
use Rattle.catalog_semantics.specs.States.{tied}
use Rattle.catalog_semantics.specs.Effects.{ties_of}
use Rattle.pp_declarations.proofs.ties.tie_all.Given as goal

abbrev pub invariant-loop-arrow : goal.invariant-loop-arrow
invariant-loop-arrow l = tied (ties_of l.at l.rest (drop l.arrow-index l.arrows)) l.state ≡ tied (ties_of l.at l.sides l.arrows) l.initial.state
