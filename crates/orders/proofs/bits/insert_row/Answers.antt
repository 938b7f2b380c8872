use Rattle.std.proofs.Common.{length, ◌∙◌, arith}
use Rattle.orders.proofs.Cells.{row_more, row_all, row_end, row_within}
use Rattle.orders.proofs.bits.insert_row.Goals as goal

pub loop-k-preserved : goal.loop-k-preserved
loop-k-preserved c =
    row_more c.width-width.result c.args.to c.args.from c.loop-k.k c.args.words.now c.loop-k.words c.loop-k-test.true
    (row_within c.args.n c.args.to c.width-width.result c.loop-k.k (length c.loop-k.words) c.width-width.ensures (c.loop-k.auto.words ∙ c.requires.size) c.requires.to c.loop-k-test.true) c.loop-k.invariant

pub returns : goal.returns
returns c = λ x y hx hy.
    row_all c.args.n c.args.to c.args.from c.args.words.now c.loop-k.words
    (row_end c.args.n c.args.to c.args.from c.width-width.result c.loop-k.k c.args.words.now c.loop-k.words c.width-width.ensures (omega arith) c.loop-k.invariant) x y hx hy
