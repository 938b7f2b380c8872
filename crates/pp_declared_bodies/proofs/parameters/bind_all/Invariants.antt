use Rattle.std.proofs.Common.{◌≡◌, map, drop}
use Rattle.catalog_semantics.specs.States.{in_turn}
use Rattle.catalog_semantics.specs.Declaring.{parameter_bound}
use Rattle.pp_declared_bodies.proofs.parameters.bind_all.Given as goal

abbrev pub invariant-loop-p : goal.invariant-loop-p
invariant-loop-p l = in_turn (map (parameter_bound l.r) (drop l.p-index l.parameters)) l.state ≡ in_turn (map (parameter_bound l.r) l.parameters) l.initial.state
