use Rattle.std.proofs.Common.{List, length, subst, ◌≤◌}
use Rattle.pp_value.specs.Values.{Pair}
use Rattle.assumed_models.proofs.NamedLaws.{all_own}
use Rattle.assumed_models.proofs.behaviors.own_attributes.Goals as goal

pub returns : goal.returns
returns c = all_own c.distinct_pairs_are_kept.ensures c.loop-pair.own c.args.attrs.now c.loop-pair.pair-index (subst (λ (l : List Pair). length l ≤ c.loop-pair.pair-index) c.as_slice-pair-items.ensures.pairs c.loop-pair-test.false) c.as_slice-pair-items.ensures.distinct c.loop-pair.invariant
