use Rattle.std.proofs.Common.{◌≡◌, drop}
use Rattle.catalog_semantics.specs.Functions.{placed, shown_arguments}
use Rattle.pp_declared_values.proofs.ShownLaws.{texts_behind}
use Rattle.pp_declared_values.proofs.shown.shown_arguments.Given as goal

abbrev pub invariant-loop-arg : goal.invariant-loop-arg
invariant-loop-arg l = texts_behind l.texts (shown_arguments (placed (drop l.arg-index l.args) l.rest)) ≡ shown_arguments (placed l.args l.values)
