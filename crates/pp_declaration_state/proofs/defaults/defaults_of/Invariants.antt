use Rattle.std.proofs.Common.{◌≡◌, [], drop}
use Rattle.pp_value.specs.Keys.{with_pairs}
use Rattle.catalog_semantics.specs.States.{defaults_of}
use Rattle.pp_declaration_state.proofs.defaults.defaults_of.Given as goal

abbrev pub invariant-loop-d : goal.invariant-loop-d
invariant-loop-d l = with_pairs l.all (defaults_of l.kind (drop l.d-index l.defaults)) ≡ with_pairs [] (defaults_of l.kind l.defaults)
