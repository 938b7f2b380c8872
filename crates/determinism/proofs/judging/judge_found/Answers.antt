use Rattle.determinism.proofs.JudgeLaws.{not_deterministic}
use Rattle.determinism.proofs.judging.judge_found.Goals as goal

pub judge_all-requires-clause-differ : goal.judge_all-requires-clause-differ
judge_all-requires-clause-differ c =
    not_deterministic c.requires.kept (c.kept_graphs.ensures.counterexamples _ c.args.plan.now.order.now c.args.kept.now c.requires.kept) c.args.tree c.args.left.now c.args.right.now c.requires.counterexample
