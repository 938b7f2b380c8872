use Rattle.std.proofs.Common.{◌≡◌, drop}
use Rattle.catalog_semantics.specs.Declaring.{resource_declared, bodies_declared}
use Rattle.pp_declared_bodies.specs.Bodies.{declared_behind, ref_to}
use Rattle.pp_declared_bodies.proofs.declaring.declare_bodies.Given as goal

abbrev pub invariant-loop-b : goal.invariant-loop-b
invariant-loop-b l =
    declared_behind l.refs (bodies_declared (λ here. resource_declared here l.is_virtual l.kind) (ref_to l.kind) (drop l.b-index l.bodies) l.state)
    ≡ bodies_declared (λ here. resource_declared here l.is_virtual l.kind) (ref_to l.kind) l.bodies l.initial.state
