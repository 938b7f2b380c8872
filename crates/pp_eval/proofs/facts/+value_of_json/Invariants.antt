use Rattle.std.proofs.Common.{◌≡◌, [], ◌++◌, drop}
use Rattle.std.specs.List.{AllByRecursion}
use Rattle.serde_json.specs.View.{items_view, members_view}
use Rattle.pp_value.specs.Keys.{with_pairs}
use Rattle.pp_value.specs.Proper.{IsProper}
use Rattle.pp_eval.specs.Facts.{facts_of, pairs_of}
use Rattle.pp_eval.proofs.facts.+value_of_json.Given as goal

abbrev pub invariant-values_of_json-loop-item : goal.invariant-values_of_json-loop-item
invariant-values_of_json-loop-item l = (l.values.items ++ facts_of (items_view (drop l.item-index l.item-items)) ≡ facts_of (items_view l.item-items)) × AllByRecursion IsProper l.values.items

abbrev pub invariant-pairs_of_json-loop-key : goal.invariant-pairs_of_json-loop-key
invariant-pairs_of_json-loop-key l = (with_pairs l.pairs (pairs_of (members_view l.key-iterator)) ≡ with_pairs [] (pairs_of (members_view l.members.entries))) × AllByRecursion (λ pair. IsProper pair.1) l.pairs
