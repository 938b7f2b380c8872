use Rattle.std.proofs.Common.{◌+◌, drop, ap, sym, ◌∙◌}
use Rattle.catalog_semantics.specs.Declaring.{resource_declared, bodies_declared}
use Rattle.pp_declared_bodies.specs.Bodies.{declared_behind, ref_to}
use Rattle.pp_declared_bodies.proofs.BodyLaws.{next_body}
use Rattle.pp_declared_bodies.proofs.declaring.declare_bodies.Goals as goal
use Rattle.rh_base.proofs.Lists.{drop_step}

pub loop-b-preserved : goal.loop-b-preserved
loop-b-preserved c =
    sym (next_body (λ here. resource_declared here c.args.is_virtual c.args.kind.now) (ref_to c.args.kind.now) c.b-item.result (drop (c.loop-b.b-index + 1) c.args.bodies.now) c.loop-b.refs
    c.loop-b.state c.declare_body.new.refs c.declare_body.new.state c.in-Ok.ensures)
    ∙ (ap (λ bs. declared_behind c.loop-b.refs (bodies_declared (λ here. resource_declared here c.args.is_virtual c.args.kind.now) (ref_to c.args.kind.now) bs c.loop-b.state))
    (sym (drop_step c.args.bodies.now c.loop-b.b-index c.b-item.result c.b-item.result c.loop-b-test.true c.b-item.is))
    ∙ c.loop-b.invariant)
