-- Classes as they are declared, and their parents.
use Rattle.std.specs.Prelude.{◌≡◌, ℕ, List, [], ◌++◌, map, Some, Result, Ok}
use Rattle.rh_base.specs.declared.fault.Refusal.{Refusal}
use Rattle.pp_value.specs.declared.value.Ref.{Ref}
use Rattle.pp_value.specs.Values.{Pair}
use Rattle.pp_eval.specs.References.{plain_name}
use Rattle.pp_eval.specs.Evaluating.{◌>>=◌}
use Rattle.catalog_semantics.specs.declared.state.State.{State}
use Rattle.catalog_semantics.specs.declared.state.Side.{Side}
use Rattle.catalog_semantics.specs.Sites.{Definition, Site, definition_of}
use Rattle.catalog_semantics.specs.States.{Effect, in_turn}
use Rattle.catalog_semantics.specs.Declaring.{Bodies, body_in, class_ref, class_resource, class_runs, class_declared, parents_of}

-- The site finds the class under its name.
abbrev pub IsOwn : Site → Definition → Type 0
IsOwn site d = definition_of d.name site.classes ≡ Some d

-- a class by a title
abbrev pub plain_class : Site → Bodies → ℕ → List Pair → List ℕ → Effect
plain_class site bodies at attributes title = class_declared site bodies at attributes (plain_name title)

-- the reference to a class by a title
abbrev pub plain_class_ref : List ℕ → Ref
plain_class_ref title = class_ref (plain_name title)

-- a class with no attributes
abbrev pub parent_runs : Bodies → ℕ → Definition → Effect
parent_runs bodies at e = class_runs (body_in bodies e.body) e (class_resource at e.name [])

-- the parents that aren't declared yet, the topmost first
abbrev pub parents_run : Site → Bodies → ℕ → Definition → Effect
parents_run site bodies at d s = do
  parents ← parents_of site s d
  in_turn (map (parent_runs bodies at) parents) s

-- some sides, and behind them others
abbrev pub sides_behind : List Side → Result (List Side × State) Refusal → Result (List Side × State) Refusal
sides_behind before r = do
  x ← r
  Ok (before ++ x.0, x.1)
