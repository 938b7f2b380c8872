-- The footprint that was found so far.
use Rattle.effect_sets.specs.declared.found.Found.{Found}
use Rattle.effect_sets.specs.Footprints.{Footprint}
use Rattle.effect_sets.specs.Members.{members}

-- the four sets, by their tests
abbrev pub found_footprint : Found → Footprint
found_footprint f = record { reads = members f.reads; writes = members f.writes; folders = members f.folders; children = members f.children }
