-- The places of a graph's plain resources are places of the catalog.
use Rattle.std.proofs.Common.{◌≡◌, ◌<◌, ◌≤◌, ◌+◌, ℕ, Bool, true, false, List, [], ◌∷◌, ◌&&◌, not, length, sym, subst, arith}
use Rattle.std.specs.Prelude.{if◌then◌else◌}
use Rattle.std.specs.List.{AllByRecursion}
use Rattle.catalog_semantics.specs.declared.catalog.Resource.{Resource}
use Rattle.catalog_semantics.specs.Catalogs.{Catalog, is_plain_sort}
use Rattle.graph_semantics.specs.Graphs.{plain_from, plain_places}

-- a place within a list, kept or left out, and others within it are within it
if_kept : (t : Bool) (m n : ℕ) (more : List ℕ) → n < m → AllByRecursion (λ i. i < m) more
    → AllByRecursion (λ i. i < m) (if t then n ∷ more else more)
if_kept true m n more h all = (h, all)
if_kept false m n more h all = all

-- the places of plain resources from a place on are within the list
low_from : (m n : ℕ) (resources : List Resource) → n + length resources ≤ m → AllByRecursion (λ i. i < m) (plain_from n resources)
low_from m n [] h = tt
low_from m n (r ∷ resources) h =
    if_kept (is_plain_sort r.sort && not r.is_virtual) m n (plain_from (n + 1) resources) (omega arith) (low_from m (n + 1) resources (omega arith))

-- the places of a graph's plain resources are within the catalog
pub places_within : (c : Catalog) (plain : List ℕ) → plain ≡ plain_places c → AllByRecursion (λ k. k < length c.resources) plain
places_within c plain are = subst (AllByRecursion (λ k. k < length c.resources)) (sym are) (low_from (length c.resources) 0 c.resources (omega arith))
