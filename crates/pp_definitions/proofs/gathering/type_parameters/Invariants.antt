use Rattle.std.proofs.Common.{◌≡◌, ◌++◌, map, drop}
use Rattle.catalog_semantics.specs.Sites.{type_parameter}
use Rattle.pp_definitions.proofs.gathering.type_parameters.Given as goal

abbrev pub invariant-loop-param : goal.invariant-loop-param
invariant-loop-param l = l.parameters ++ map type_parameter (drop l.param-index l.params) ≡ map type_parameter l.params
