use Rattle.std.proofs.Common.{◌≡◌, ◌++◌, map, drop}
use Rattle.pp_eval.specs.Scoping.{pairs_in}
use Rattle.pp_data.specs.Lookup.{lookup}
use Rattle.catalog_semantics.specs.Sites.{class_parameter}
use Rattle.pp_definitions.proofs.gathering.class_parameters.Given as goal

abbrev pub invariant-loop-param : goal.invariant-loop-param
invariant-loop-param l =
    l.parameters ++ map (class_parameter (lookup l.class_data (pairs_in l.facts)) l.class) (drop l.param-index l.params)
    ≡ map (class_parameter (lookup l.class_data (pairs_in l.facts)) l.class) l.params
