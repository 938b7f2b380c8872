use Rattle.std.proofs.Common.{◌≡◌, drop}
use Rattle.pp_eval.specs.Evaluating.{if_there}
use Rattle.pp_eval.specs.Evaluation.{texts_of, with_references}
use Rattle.pp_eval.proofs.references.add_listed.Given as goal

abbrev pub invariant-loop-title : goal.invariant-loop-title
invariant-loop-title l = with_references l.kind l.references (if_there l.at (texts_of (drop l.title-index l.titles))) ≡ with_references l.kind l.initial.references (if_there l.at (texts_of l.titles))
