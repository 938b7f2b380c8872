use Rattle.std.proofs.Common.{◌+◌, drop}
use Rattle.pp_declared_values.proofs.Naming.{refuses_all}
use Rattle.pp_declared_values.proofs.attributes.attributes_behind.Goals as goal
use Rattle.rh_base.proofs.Lists.{drop_step}

pub returns-in-Err : goal.returns-in-Err
returns-in-Err c =
    refuses_all c.args.scopes.now c.loop-a.names c.args.names c.loop-a.given c.a-item.result (drop c.loop-a.a-index c.args.attrs.now) (drop (c.loop-a.a-index + 1) c.args.attrs.now)
    c.args.attrs.now c.in-Err.fault c.loop-a.invariant.1
    (drop_step c.args.attrs.now c.loop-a.a-index c.a-item.result c.a-item.result c.loop-a-test.true c.a-item.is)
    (c.in-Err.ensures.goes_on (drop (c.loop-a.a-index + 1) c.args.attrs.now))
