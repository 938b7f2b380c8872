use Rattle.std.proofs.Common.{◌≡◌, [], drop}
use Rattle.pp_value.specs.Keys.{with_pairs}
use Rattle.assumed_models.specs.Behaviors.{own_attributes}
use Rattle.assumed_models.proofs.behaviors.own_attributes.Given as goal

-- the attributes so far, with those that are left
abbrev pub invariant-loop-pair : goal.invariant-loop-pair
invariant-loop-pair l = with_pairs l.own (own_attributes (drop l.pair-index l.attrs)) ≡ with_pairs [] (own_attributes l.attrs)
