use Rattle.orders.proofs.Cells.{cell_set}
use Rattle.orders.proofs.bits.insert.Goals as goal

pub returns : goal.returns
returns c = λ x y hx hy. rw c.width.ensures (cell_set c.args.n c.args.words.now c.args.a c.args.b x y c.requires.size c.requires.row c.requires.column hy)
