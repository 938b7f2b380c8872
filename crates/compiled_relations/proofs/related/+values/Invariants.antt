use Rattle.std.proofs.Common.{◌≡◌, ◌++◌, drop}
use Rattle.std.specs.List.{flat_map}
use Rattle.graph_semantics.specs.Relations.{references_within}
use Rattle.compiled_relations.specs.Links.{places_of}
use Rattle.compiled_relations.proofs.related.+values.Given as goal

-- the places so far, with those that are left
abbrev pub invariant-push_all_within-loop-item : goal.invariant-push_all_within-loop-item
invariant-push_all_within-loop-item l =
    l.places ++ places_of l.catalog (flat_map references_within (drop l.item-index l.items)) ≡ l.fn.places ++ places_of l.catalog (flat_map references_within l.items)
