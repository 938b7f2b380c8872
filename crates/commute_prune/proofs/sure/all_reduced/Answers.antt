use Rattle.std.proofs.Common.{[], ◌∷◌, length, length-append, false, get_or, ap, sym, subst, ◌∙◌, arith}
use Rattle.orders.specs.Relation.{comes}
use Rattle.commute_prune.specs.Reduced.{AreReduced}
use Rattle.commute_prune.proofs.SureLaws.{one_more_reduced}
use Rattle.commute_prune.proofs.sure.all_reduced.Goals as goal

pub loop-f-preserved : goal.loop-f-preserved
loop-f-preserved c =
    let before = comes c.args.order.now in
    let fs = c.args.all.now in
    let made = c.loop-f.made.items in
    let one = c.in_ok-reduced.field-0 in
    record {
      at = omega (arith, c.loop-f.invariant.at);
      long = omega (arith, ap length c.in_ok-push.ensures.items, length-append made (one ∷ []), c.loop-f.invariant.long);
      reduced = subst (AreReduced before fs) (sym c.in_ok-push.ensures.items)
          (one_more_reduced before fs made c.loop-f.f-index c.loop-f.i c.f-item.result one c.deref.result.now c.deref-in-loop-f.result.now c.loop-f.invariant.at c.loop-f.invariant.long c.loop-f-test.true c.f-item.is
          (λ n. ap (λ xs. get_or xs n false) c.deref.ensures.value ∙ c.in_ok-left.ensures n)
          (λ n. ap (λ xs. get_or xs n false) c.deref-in-loop-f.ensures.value ∙ c.in_ok-changed.ensures n)
          c.in_ok-reduced.ensures c.loop-f.invariant.reduced);
    }
