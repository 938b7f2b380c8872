use Rattle.std.proofs.Common.{drop, sym, ◌∙◌}
use Rattle.explained_runs.proofs.RunLaws.{nothing_left}
use Rattle.explained_runs.proofs.exchange.first_apart.Goals as goal

pub returns-in_default : goal.returns-in_default
returns-in_default c = sym (nothing_left (drop c.loop-i.i-index c.args.left.now) c.loop-i.rest.now c.in_default.ensures.cases) ∙ c.loop-i.invariant
