-- What runs in a frame.
use Rattle.std.specs.Prelude.{ℕ, List}
use Rattle.catalog_semantics.specs.States.{Effect}
use Rattle.catalog_semantics.specs.Declaring.{Bodies}
use Rattle.catalog_semantics.specs.Functions.{included_then}
use Rattle.catalog_semantics.specs.Effects.{bodies_at}
use Rattle.pp_declarations.specs.declared.frame.Frame.{Frame}
use Rattle.pp_declarations.specs.declared.frame.Call.{Call}
use Rattle.pp_declarations.specs.Including.{after_include}

-- which bodies may still run in it
abbrev pub bodies_in : Frame → Bodies
bodies_in frame = bodies_at frame.left frame.site.now

-- a class that a call includes, and what its function does with it then
abbrev pub includes : Frame → Call → List ℕ → Effect
includes frame call = included_then (after_include call.func call.at) frame.site.now (bodies_in frame) call.at
