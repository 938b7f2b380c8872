use Rattle.std.proofs.Common.{◌≡◌, [], map, drop}
use Rattle.pp_value.specs.Keys.{with_pairs}
use Rattle.pp_declaration_state.specs.Defaulting.{noted}
use Rattle.pp_declaration_state.proofs.defaults.note_names.Given as goal

abbrev pub invariant-loop-pair : goal.invariant-loop-pair
invariant-loop-pair l = with_pairs l.names (map noted (drop l.pair-index l.pairs)) ≡ with_pairs [] (map noted l.pairs)
