use Rattle.std.proofs.Common.{◌≡◌, drop}
use Rattle.std.specs.Prelude.{is_some}
use Rattle.pp_eval.specs.Evaluation.{texts_of}
use Rattle.dep_graph.proofs.named.are_texts.Given as goal

abbrev pub invariant-loop-item : goal.invariant-loop-item
invariant-loop-item l = is_some (texts_of (drop l.item-index l.items)) ≡ is_some (texts_of l.items)
