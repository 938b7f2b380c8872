use Rattle.given_text.proofs.CheckLaws.{same_within, below_within}
use Rattle.given_text.proofs.checking.is_within.Goals as goal

pub returns-then-same : goal.returns-then-same
returns-then-same c = same_within c.args.p.now c.args.q.now c.eq-same.result c.if-same.true c.eq-same.ensures

pub returns-else-same : goal.returns-else-same
returns-else-same c = below_within c.args.p.now c.args.q.now c.eq-same.result c.is_ancestor-below.result c.if-same.false c.eq-same.ensures c.is_ancestor-below.ensures
