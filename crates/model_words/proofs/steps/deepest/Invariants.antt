use Rattle.std.proofs.Common.{◌≡◌, drop, max}
use Rattle.model_semantics.specs.Words.{deepest}
use Rattle.model_words.proofs.steps.deepest.Given as goal

abbrev pub invariant-loop-p : goal.invariant-loop-p
invariant-loop-p l = max l.depth (deepest (drop l.p-index l.paths)) ≡ deepest l.paths
