use Rattle.std.proofs.Common.{◌≡◌, [], ◌++◌, drop}
use Rattle.std.specs.List.{AllByRecursion}
use Rattle.serde_json.specs.View.{items_view, members_view}
use Rattle.pp_value.specs.Keys.{with_pairs}
use Rattle.pp_value.specs.Proper.{IsProper}
use Rattle.compiled_text.specs.Values.{values_of, pairs_of}
use Rattle.compiled_text.proofs.values.+value_of.Given as goal

-- the values so far, with those of the items that are left
abbrev pub invariant-values_of-loop-item : goal.invariant-values_of-loop-item
invariant-values_of-loop-item l = (l.values ++ values_of (items_view (drop l.item-index l.item-items)) ≡ values_of (items_view l.item-items)) × AllByRecursion IsProper l.values

-- the pairs so far, with those of the members that are left
abbrev pub invariant-pairs_of-loop-key : goal.invariant-pairs_of-loop-key
invariant-pairs_of-loop-key l = (with_pairs l.pairs (pairs_of (members_view l.key-iterator)) ≡ with_pairs [] (pairs_of (members_view l.members.entries))) × AllByRecursion (λ pair. IsProper pair.1) l.pairs
