use Rattle.std.proofs.Common.{take, arith}
use Rattle.text_places.proofs.PlaceLaws.{feed_step, byte_step}
use Rattle.text_places.proofs.place_of.Goals as goal
use Rattle.text_places.proofs.place_of.Goals.{then-b-eq10, else-b-eq10}

pub loop-b-preserved : goal.loop-b-preserved
loop-b-preserved c = elim c.if-b-eq10.branch [
  | then-b-eq10 w ↦ record {
    read = feed_step (take c.min.result c.args.text.now) c.loop-b.b-index c.loop-b.line c.loop-b.column c.if-b-eq10.line c.if-b-eq10.column c.loop-b-test.true c.loop-b.invariant.read w.if-b-eq10.true w.line-is w.column-is;
    line = omega (arith, c.loop-b.invariant.line, w.line-is);
    column = omega (arith, c.loop-b.invariant.column, w.column-is);
  }
  | else-b-eq10 w ↦ record {
    read = byte_step (take c.min.result c.args.text.now) c.loop-b.b-index c.loop-b.line c.loop-b.column c.if-b-eq10.line c.if-b-eq10.column c.loop-b-test.true c.loop-b.invariant.read w.if-b-eq10.false w.line-is w.column-is;
    line = omega (arith, c.loop-b.invariant.line, w.line-is);
    column = omega (arith, c.loop-b.invariant.column, w.column-is);
  }
]
