use Rattle.std.proofs.Common.{◌≡◌, drop}
use Rattle.catalog_semantics.specs.Declaring.{all_known}
use Rattle.pp_declared_bodies.proofs.parameters.all_known.Given as goal

abbrev pub invariant-loop-pair : goal.invariant-loop-pair
invariant-loop-pair l = all_known l.at l.parameters (drop l.pair-index l.attributes) l.state ≡ all_known l.at l.parameters l.attributes l.state
