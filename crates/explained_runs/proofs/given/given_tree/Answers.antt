use Rattle.std.proofs.Common.{◌+◌, refl}
use Rattle.explained_runs.proofs.GivenLaws.{one_more_given, at_item, nothing_given, only_more}
use Rattle.explained_runs.proofs.given.given_tree.Goals as goal

pub loop-p-init : goal.loop-p-init
loop-p-init c = record { stand = tt; only = nothing_given c.args.given.now c.in_ok-tree.tree c.in_ok-tree.ensures }

pub loop-p-preserved : goal.loop-p-preserved
loop-p-preserved c =
    let given = c.args.given.now in
    let i = c.loop-p.p-index in
    let p = c.p-item.result in
    record {
      stand = one_more_given given i (i + 1) p c.loop-p.tree c.add_down.new.tree refl c.loop-p-test.true c.p-item.is c.loop-p.invariant.stand c.in_ok-add_down.ensures;
      only = only_more given p c.loop-p.tree c.add_down.new.tree (λ q f. at_item given i p c.loop-p-test.true c.p-item.is q f) c.loop-p.invariant.only c.in_ok-add_down.ensures;
    }
