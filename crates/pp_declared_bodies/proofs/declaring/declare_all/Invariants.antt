use Rattle.std.proofs.Common.{◌≡◌, map, drop}
use Rattle.catalog_semantics.specs.States.{in_turn}
use Rattle.pp_declared_bodies.specs.Untitled.{titled}
use Rattle.pp_declared_bodies.proofs.declaring.declare_all.Given as goal

abbrev pub invariant-loop-title : goal.invariant-loop-title
invariant-loop-title l = in_turn (map (titled l.untitled) (drop l.title-index l.titles)) l.state ≡ in_turn (map (titled l.untitled) l.titles) l.initial.state
