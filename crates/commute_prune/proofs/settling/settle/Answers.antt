use Rattle.std.proofs.Common.{◌+◌, ◌<◌, Bool, cond, [], length, sym, subst, append-nil, refl}
use Rattle.fs_semantics.specs.Orders.{up_from}
use Rattle.commute_prune.specs.Steps.{next_move}
use Rattle.commute_prune.specs.Pruned.{Finds, IsOnTheWay}
use Rattle.commute_prune.specs.Search.{IsNothingSeen}
use Rattle.commute_prune.proofs.StepLaws.{on_start, on_step, fewer}
use Rattle.commute_prune.proofs.SearchLaws.{search_starts}
use Rattle.commute_prune.proofs.settling.settle.Goals as goal

pub loop-more-init : goal.loop-more-init
loop-more-init c = record {
  way = on_start c.args.order.now c.args.clear.now c.args.p.now c.requires.start;
  search = search_starts c.args.order.now c.args.clear.now c.args.p.now.kept c.in_ok-search.search c.requires.start.0 (subst (λ n. IsNothingSeen n c.in_ok-search.search) c.count.ensures.count c.in_ok-search.ensures);
}

pub loop-more-smaller : goal.loop-more-smaller
loop-more-smaller c =
    let way = subst (IsOnTheWay c.args.order.now c.args.clear.now c.loop-more.p) c.loop-more-test.true c.loop-more.invariant.way in
    subst (λ (b : Bool). cond c.in_ok-more.more 1 0 + length c.step.new.p.kept < cond b 1 0 + length c.loop-more.p.kept) (sym c.loop-more-test.true)
    (fewer c.args.order.now c.args.clear.now c.loop-more.p c.step.new.p c.in_ok-more.more way (next_move c.args.order.now c.args.clear.now c.loop-more.p.kept) refl c.in_ok-more.ensures.stepped)

pub loop-more-preserved : goal.loop-more-preserved
loop-more-preserved c =
    let way = subst (IsOnTheWay c.args.order.now c.args.clear.now c.loop-more.p) c.loop-more-test.true c.loop-more.invariant.way in
    record {
      way = on_step c.args.order.now c.args.clear.now c.loop-more.p c.step.new.p c.in_ok-more.more way (next_move c.args.order.now c.args.clear.now c.loop-more.p.kept) refl c.in_ok-more.ensures.stepped;
      search = c.in_ok-more.ensures.search;
    }

pub returns : goal.returns
returns c =
    let way = c.loop-more.invariant.way in
    record {
      moves = way.done;
      found = subst (λ ms. Finds c.args.order.now c.args.clear.now ms (up_from 0 c.args.order.now.count) c.loop-more.p.kept) (append-nil way.done)
          (way.leads [] c.loop-more.p.kept (refl, way.ended c.loop-more-test.false));
      first_is = way.first_is;
      late_is = way.late_is;
    }
