-- What one resource adds to a result.
use Rattle.std.specs.Prelude.{Bool, ◌&&◌, not, if◌then◌else◌, List, [], ◌∷◌}
use Rattle.pp_value.specs.declared.value.Ref.{Ref}
use Rattle.catalog_semantics.specs.declared.catalog.Resource.{Resource}
use Rattle.catalog_semantics.specs.declared.state.Collector.{Collector}
use Rattle.catalog_semantics.specs.Collecting.{matches}
use Rattle.catalog_semantics.specs.Catalogs.{is_plain_sort}

-- a real resource that a collector matches
abbrev pub is_hit : Collector → Resource → Bool
is_hit c r = matches c r && not r.is_virtual

-- its reference, where it is one
abbrev pub hits : Collector → Resource → List Ref
hits c r = if is_hit c r then r.id ∷ [] else []

-- a real resource of a built-in type
abbrev pub is_real_plain : Resource → Bool
is_real_plain r = is_plain_sort r.sort && not r.is_virtual
