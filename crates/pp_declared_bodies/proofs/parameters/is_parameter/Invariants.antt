use Rattle.std.proofs.Common.{◌≡◌, drop}
use Rattle.catalog_semantics.specs.Declaring.{is_parameter}
use Rattle.pp_declared_bodies.proofs.parameters.is_parameter.Given as goal

abbrev pub invariant-loop-p : goal.invariant-loop-p
invariant-loop-p l = is_parameter (drop l.p-index l.parameters) l.name ≡ is_parameter l.parameters l.name
