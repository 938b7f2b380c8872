-- Resources that get their titles.
use Rattle.std.specs.Prelude.{ℕ, List}
use Rattle.catalog_semantics.specs.States.{Effect}
use Rattle.catalog_semantics.specs.Declaring.{resource_declared}
use Rattle.pp_declared_bodies.specs.declared.declaring.Untitled.{Untitled}

-- the resource is declared under a title
abbrev pub titled : Untitled → List ℕ → Effect
titled r = resource_declared r.at r.is_virtual r.kind.now r.attributes.now
