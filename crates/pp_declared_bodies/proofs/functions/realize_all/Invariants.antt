use Rattle.std.proofs.Common.{◌≡◌, map, drop}
use Rattle.catalog_semantics.specs.States.{in_turn}
use Rattle.catalog_semantics.specs.Functions.{placed, realizes}
use Rattle.pp_declared_bodies.proofs.functions.realize_all.Given as goal

abbrev pub invariant-loop-arg : goal.invariant-loop-arg
invariant-loop-arg l =
    in_turn (map (realizes l.at) (placed (drop l.arg-index l.args) l.rest)) l.state
    ≡ in_turn (map (realizes l.at) (placed l.args l.values)) l.initial.state
