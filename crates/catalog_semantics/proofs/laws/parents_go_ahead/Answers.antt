use Rattle.catalog_semantics.proofs.Ahead.{parents_are}
use Rattle.catalog_semantics.proofs.laws.parents_go_ahead.Goals as goal

pub returns : goal.returns
returns c = parents_are
