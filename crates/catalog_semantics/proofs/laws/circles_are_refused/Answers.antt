use Rattle.catalog_semantics.proofs.Circles.{circle_is}
use Rattle.catalog_semantics.proofs.laws.circles_are_refused.Goals as goal

pub returns : goal.returns
returns c = circle_is
