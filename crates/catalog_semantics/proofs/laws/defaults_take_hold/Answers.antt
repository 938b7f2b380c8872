use Rattle.catalog_semantics.proofs.Filled.{ends_filled, ends_refused}
use Rattle.catalog_semantics.proofs.laws.defaults_take_hold.Goals as goal

pub returns : goal.returns
returns c = record { filled = ends_filled; refused = ends_refused }
