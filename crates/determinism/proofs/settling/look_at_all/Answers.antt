use Rattle.std.proofs.Common.{map, get_or, subst}
use Rattle.fs_lang.specs.Meaning.{program_of}
use Rattle.tried_trees.proofs.TriedLaws.{all_next}
use Rattle.determinism.specs.Settled.{PairCommutes, IsLook}
use Rattle.determinism.proofs.settling.look_at_all.Goals as goal

pub loop-pair-preserved : goal.loop-pair-preserved
loop-pair-preserved c =
    let es = map program_of c.args.plan.now.programs.now in
    let pairs = c.args.pairs.now in
    let i = c.loop-pair.pair-index in
    all_next (PairCommutes es) pairs i (0, 0) c.loop-pair-test.true c.loop-pair.invariant
    (subst (IsLook es c.args.plan.now.order.now (get_or pairs i (0, 0))) c.in-Commute.is c.in_ok-verified.ensures)

pub loop-pair-preserved-then-branch : goal.loop-pair-preserved-then-branch
loop-pair-preserved-then-branch c =
    all_next (PairCommutes (map program_of c.args.plan.now.programs.now)) c.args.pairs.now c.loop-pair.pair-index (0, 0) c.loop-pair-test.true c.loop-pair.invariant
    (c.in_ok-commute_by_parts.ensures c.if-branch.true)
