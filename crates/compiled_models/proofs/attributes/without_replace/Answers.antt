use Rattle.std.proofs.Common.{List, length, subst, ◌≤◌}
use Rattle.pp_value.specs.Values.{Pair}
use Rattle.compiled_models.proofs.AttributeLaws.{all_taken}
use Rattle.compiled_models.proofs.attributes.without_replace.Goals as goal

pub returns : goal.returns
returns c = all_taken c.distinct_pairs_are_kept.ensures c.loop-pair.rest c.args.attrs.now c.loop-pair.pair-index (subst (λ (l : List Pair). length l ≤ c.loop-pair.pair-index) c.as_slice-pair-items.ensures.pairs c.loop-pair-test.false) c.as_slice-pair-items.ensures.distinct c.loop-pair.invariant
