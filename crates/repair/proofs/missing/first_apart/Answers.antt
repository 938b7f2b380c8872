use Rattle.std.proofs.Common.{sym, ◌∙◌}
use Rattle.repair.proofs.MissingLaws.{ends_apart}
use Rattle.repair.proofs.missing.first_apart.Goals as goal

pub returns-then-k-right : goal.returns-then-k-right
returns-then-k-right c = sym (ends_apart c.args.left.now c.args.right.now c.loop-k.k c.if-k-right.true) ∙ c.loop-k.invariant
