use Rattle.std.proofs.Common.{map, get_or, subst}
use Rattle.fs_lang.specs.Meaning.{program_of}
use Rattle.tried_trees.specs.Tried.{IsTried}
use Rattle.tried_trees.proofs.TriedLaws.{all_next, if_none}
use Rattle.tried_trees.proofs.trying.try_place.Goals as goal

pub loop-pair-preserved : goal.loop-pair-preserved
loop-pair-preserved c =
    let place = c.args.place in
    let order = c.args.plan.now.order.now in
    let pair = get_or c.args.pairs.now c.loop-pair.pair-index (0, 0) in
    all_next (IsTried place (map program_of c.args.plan.now.programs.now) order c.args.tree.now) c.args.pairs.now c.loop-pair.pair-index (0, 0) c.loop-pair-test.true c.loop-pair.invariant
    (subst (λ es. IsTried place (map program_of es) order c.args.tree.now pair) c.in_ok-ground.ensures.programs
    (subst (λ t. IsTried place (map program_of c.in_ok-ground.ground.programs.now) order t pair) c.in_ok-ground.ensures.tree
    (if_none c.in_ok-found.field-0 _ _ c.in_default.is c.in_ok-found.ensures.tried)))
