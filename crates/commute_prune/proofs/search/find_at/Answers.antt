use Rattle.std.proofs.Common.{◌<◌, sym, ◌∙◌}
use Rattle.commute_prune.specs.Steps.{may}
use Rattle.commute_prune.proofs.SearchLaws.{passed_over, behind}
use Rattle.commute_prune.proofs.search.find_at.Goals as goal

pub loop-k-preserved : goal.loop-k-preserved
loop-k-preserved c =
    let kept = c.args.kept.now in
    let so_far = c.loop-k.invariant in
    record {
      below = behind (λ j. j < c.args.order.now.count) kept c.loop-k.k-index c.loop-k-test.true so_far.below;
      rest = so_far.rest ∙ passed_over (may c.args.end c.args.order.now c.args.clear.now kept) kept c.loop-k.k-index c.loop-k-test.true
          (sym (c.may_go.ensures.may kept c.requires.kept c.requires.stays so_far.seen) ∙ c.if-may_go.false);
      seen = c.may_go.ensures.seen kept c.requires.stays so_far.seen;
    }
