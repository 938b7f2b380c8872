use Rattle.std.proofs.Common.{◌≡◌, drop}
use Rattle.pp_value.specs.Keys.{with_pairs}
use Rattle.pp_declaration_state.proofs.defaults.put_all.Given as goal

abbrev pub invariant-loop-pair : goal.invariant-loop-pair
invariant-loop-pair l = with_pairs l.into (drop l.pair-index l.pairs) ≡ with_pairs l.initial.into l.pairs
