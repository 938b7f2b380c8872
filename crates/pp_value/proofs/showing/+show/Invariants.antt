use Rattle.std.proofs.Common.{◌≡◌, ◌++◌, drop, map}
use Rattle.pp_value.specs.Levels.{pair_text}
use Rattle.pp_value.specs.Shown.{shown, behind}
use Rattle.pp_value.proofs.showing.+show.Given as goal

abbrev pub invariant-push_all-loop-item : goal.invariant-push_all-loop-item
invariant-push_all-loop-item l = l.into ++ behind (map shown (drop l.item-index l.rest)) ≡ l.initial.into ++ behind (map shown l.rest)

abbrev pub invariant-push_pairs-loop-pair : goal.invariant-push_pairs-loop-pair
invariant-push_pairs-loop-pair l = l.into ++ behind (map pair_text (drop l.pair-index l.rest)) ≡ l.initial.into ++ behind (map pair_text l.rest)
