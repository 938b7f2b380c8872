use Rattle.std.proofs.Common.{◌≡◌, length, Ok}
use Rattle.pp_eval.specs.Evaluation.{prefix_at}
use Rattle.pp_eval.proofs.operations.prefixed_all.Given as goal

abbrev pub invariant-loop-op : goal.invariant-loop-op
invariant-loop-op l = prefix_at l.at l.rest (Ok l.value) ≡ prefix_at l.at l.ops (Ok l.fn.value)

abbrev pub decreases-loop-op : goal.decreases-loop-op
decreases-loop-op l = length l.rest
