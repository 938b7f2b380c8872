use Rattle.std.proofs.Common.{◌≡◌, map, drop}
use Rattle.catalog_semantics.specs.States.{in_turn}
use Rattle.catalog_semantics.specs.Catalogs.{item_effect}
use Rattle.pp_compile.proofs.items.run_items.Given as goal

abbrev pub invariant-loop-item : goal.invariant-loop-item
invariant-loop-item l = in_turn (map (item_effect l.site) (drop l.item-index l.items)) l.state ≡ in_turn (map (item_effect l.site) l.items) l.initial.state
