use Rattle.std.proofs.Common.{◌≡◌, drop}
use Rattle.pp_eval.specs.Scoping.{pairs_in}
use Rattle.pp_data.specs.Lookup.{lookup}
use Rattle.catalog_semantics.specs.Sites.{gathered, node_names}
use Rattle.pp_definitions.specs.Places.{noted}
use Rattle.pp_definitions.proofs.gathering.gather.Given as goal

abbrev pub invariant-loop-item : goal.invariant-loop-item
invariant-loop-item l =
    (l.taken ≡ noted (node_names l.site.nodes))
    × (gathered (lookup l.class_data (pairs_in l.facts)) (drop l.item-index l.items) l.site ≡ gathered (lookup l.class_data (pairs_in l.facts)) l.items l.initial.site)
