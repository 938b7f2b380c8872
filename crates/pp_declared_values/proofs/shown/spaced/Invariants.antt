use Rattle.std.proofs.Common.{◌≡◌, drop}
use Rattle.catalog_semantics.specs.Functions.{spaced}
use Rattle.pp_declared_values.proofs.ShownLaws.{spaced_behind}
use Rattle.pp_declared_values.proofs.shown.spaced.Given as goal

abbrev pub invariant-loop-other : goal.invariant-loop-other
invariant-loop-other l = spaced_behind l.text (drop l.other-index l.rest) ≡ spaced l.texts
