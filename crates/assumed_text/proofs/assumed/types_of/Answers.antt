use Rattle.assumed_text.proofs.TypeLaws.{all_noted}
use Rattle.assumed_text.proofs.assumed.types_of.Goals as goal

pub returns : goal.returns
returns c = all_noted c.loop-row.types c.loop-row.place c.loop-row.row-index c.args.rows.now c.loop-row-test.false c.loop-row.invariant.0
