use Rattle.std.proofs.Common.{◌≡◌, drop}
use Rattle.pp_eval.specs.Evaluation.{texts_of}
use Rattle.pp_declared_values.proofs.Steps.{found_behind}
use Rattle.pp_declared_values.proofs.titles.texts_of.Given as goal

abbrev pub invariant-loop-item : goal.invariant-loop-item
invariant-loop-item l = found_behind l.texts (texts_of (drop l.item-index l.items)) ≡ texts_of l.items
