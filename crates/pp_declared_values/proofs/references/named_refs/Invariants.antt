use Rattle.std.proofs.Common.{◌≡◌, drop}
use Rattle.catalog_semantics.specs.Effects.{named_refs}
use Rattle.pp_declared_values.specs.Found.{refs_behind}
use Rattle.pp_declared_values.proofs.references.named_refs.Given as goal

abbrev pub invariant-loop-e : goal.invariant-loop-e
invariant-loop-e l = refs_behind l.refs (named_refs l.scopes (drop l.e-index l.es)) ≡ named_refs l.scopes l.es
