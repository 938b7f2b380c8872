use Rattle.std.proofs.Common.{◌≡◌, [], take, drop, length}
use Rattle.catalog_semantics.specs.Catalogs.{filled_behind}
use Rattle.pp_declaration_state.proofs.filling.fill_all.Given as goal

abbrev pub invariant-loop-i : goal.invariant-loop-i
invariant-loop-i l =
    (l.catalog ≡ record l.initial.catalog { resources = l.catalog.resources })
    × (length l.catalog.resources ≡ length l.initial.catalog.resources)
    × (filled_behind l.defaults (take l.i l.catalog.resources) (drop l.i l.catalog.resources) ≡ filled_behind l.defaults [] l.initial.catalog.resources)
