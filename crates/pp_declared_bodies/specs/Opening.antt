-- How a body is opened, once its scope is entered.
use Rattle.std.specs.Prelude.{◌∷◌, List, map, codes}
use Rattle.catalog_semantics.specs.declared.catalog.Resource.{Resource}
use Rattle.catalog_semantics.specs.Sites.{Parameter}
use Rattle.catalog_semantics.specs.States.{Effect, in_turn}
use Rattle.catalog_semantics.specs.Declaring.{title_bound, parameter_bound}

-- `title`, `name` and the parameters are bound in the current scope, one after the other
abbrev pub parameters_bound : Resource → List Parameter → Effect
parameters_bound r parameters = in_turn (title_bound r (codes "title") ∷ title_bound r (codes "name") ∷ map (parameter_bound r) parameters)
