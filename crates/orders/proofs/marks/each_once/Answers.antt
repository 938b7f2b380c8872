use Rattle.std.proofs.Common.{◌≡◌, ℕ, length, sym, subst, arith, refl}
use Rattle.std.proofs.lemmas.List.{length-set}
use Rattle.std.proofs.lemmas.Bool.{false≢true}
use Rattle.orders.specs.Counting.{EachOnce}
use Rattle.orders.proofs.MarkLaws.{marked_more, marked_twice, marked_all}
use Rattle.orders.proofs.marks.each_once.Goals as goal

pub returns-then-marks-node : goal.returns-then-marks-node
returns-then-marks-node c = (
  λ f. absurd (false≢true f),
  λ o.
      absurd (marked_twice c.args.list.now c.loop-item.item-index c.loop-item.marks c.loop-item-test.true c.loop-item.invariant (length c.args.marks.now) (omega arith) c.if-node-marks.false c.if-marks-node.true o),
)

pub loop-item-preserved : goal.loop-item-preserved
loop-item-preserved c =
    marked_more c.args.list.now c.loop-item.item-index c.loop-item.marks c.loop-item-test.true c.loop-item.invariant _ refl (grind (arith, length-set)) c.if-node-marks.false c.if-marks-node.false

pub returns : goal.returns
returns c =
    let m = marked_all c.args.list.now c.loop-item.item-index c.loop-item.marks (omega arith) c.loop-item.invariant in
    let P : ℕ → Type 0 = λ n. EachOnce n c.args.list.now in
    let len : length c.loop-item.marks ≡ length c.args.marks.now = omega arith in
    (λ t. subst P len (m.1 (c.all_set.ensures.0 t)), λ o. c.all_set.ensures.1 (m.0 (subst P (sym len) o)))
