use Rattle.std.proofs.Common.{◌≡◌, drop}
use Rattle.pp_eval.specs.Scoping.{with_facts}
use Rattle.pp_eval.proofs.start.bind_pairs.Given as goal

abbrev pub invariant-loop-pair : goal.invariant-loop-pair
invariant-loop-pair l = with_facts l.bindings (drop l.pair-index l.pairs) ≡ with_facts l.initial.bindings l.pairs
