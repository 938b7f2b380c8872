use Rattle.std.proofs.Common.{drop}
use Rattle.pp_print.proofs.Blocks.{no_sides}
use Rattle.pp_print.proofs.resource.links.Goals as goal

pub returns-in_default : goal.returns-in_default
returns-in_default c = no_sides c.loop-a.words c.args.words.now (drop c.loop-a.a-index c.args.arrows.now) c.args.arrows.now c.loop-a.rest.now c.args.sides.now c.in_default.ensures.cases c.loop-a.invariant
