use Rattle.std.proofs.Common.{sym}
use Rattle.std.specs.Prelude.{slice_get}
use Rattle.compiled_attributes.proofs.PlaceLaws.{none_there}
use Rattle.compiled_attributes.proofs.fragments.push_at.Goals as goal

pub returns-in-None : goal.returns-in-None
returns-in-None c = none_there c.args.found.now.items (slice_get c.args.resources.now c.args.place) (sym c.in-None.ensures)
