-- How many numbers there are, and where the plain resources stand.
use Rattle.std.proofs.Common.{ℕ, ◌+◌, ◌*◌, ◌<◌, ◌≤◌, List, [], ◌∷◌, length, Bool, true, false, cond, ◌&&◌, sym, subst, arith}
use Rattle.std.specs.Prelude.{slice_index, not}
use Rattle.std.specs.List.{All, Contains}
use Rattle.std.proofs.lemmas.List.Elements.{Contains-get_or}
use Rattle.catalog_semantics.specs.declared.catalog.Resource.{Resource}
use Rattle.catalog_semantics.specs.Catalogs.{Catalog, is_plain_sort}
use Rattle.catalog_semantics.specs.States.{declared_bound}
use Rattle.graph_semantics.specs.Graphs.{Node, rank, plain_from, plain_places}
use Rattle.graph_semantics.specs.Allowed.{IsNode}
use Rattle.dep_graph.specs.Files.{AreFiles}
use Rattle.dep_graph.specs.Pairs.{IsWithin}
use Rattle.dep_graph.specs.Whole.{bound_of}
use Rattle.dep_graph.specs.declared.files.ManagedFile.{ManagedFile}
use Rattle.graph_semantics.proofs.RealPlaces.{within}
use Rattle.graph_semantics.proofs.RealPlaces.{plain_at}
use Rattle.dep_graph.proofs.NamedLaws.{all_from}

-- the place of a plain resource is within the resources
pub place_within : (c : Catalog) (k : ℕ) → Contains (plain_places c) k → k < length c.resources
place_within c k h = let at = plain_at c k h in within c k at.0 at.1.real

-- so no such place is above the greatest number of resources
pub places_small : (c : Catalog) → length c.resources ≤ declared_bound → All (λ p. p < declared_bound) (plain_places c)
places_small c few = all_from (λ p. p < declared_bound) (plain_places c) (λ k h. let less = place_within c k h in omega arith)

-- nor is that of a file
pub files_small : (c : Catalog) (files : List ManagedFile) → length c.resources ≤ declared_bound → AreFiles c (plain_places c) files → All (λ f. f.place < declared_bound) files
files_small c files few are = all_from (λ (f : ManagedFile). f.place < declared_bound) files (λ f h. let less = place_within c f.place ((are f).0 h).place in omega arith)

-- each place is within the numbers of the nodes
pub places_within : (c : Catalog) (count : ℕ) → length c.resources ≤ declared_bound → bound_of c ≤ count → All (IsWithin count) (plain_places c)
places_within c count few enough =
    all_from (IsWithin count) (plain_places c) (λ k h. let less = place_within c k h in record { node = omega arith; few = omega arith })

-- the node of a plain resource is one of those of resources
pub place_low : (c : Catalog) (i : ℕ) → i < length (plain_places c) → 2 * slice_index (plain_places c) i < bound_of c
place_low c i h = let less = place_within c (slice_index (plain_places c) i) (Contains-get_or (plain_places c) i 0 h) in omega arith

-- there are no more plain resources than resources
shorter : (n : ℕ) (resources : List Resource) → length (plain_from n resources) ≤ length resources
shorter n [] = omega arith
shorter n (r ∷ resources) = step (is_plain_sort r.sort && not r.is_virtual) (shorter (n + 1) resources) where
  step : (t : Bool) → length (plain_from (n + 1) resources) ≤ length resources → length (cond t (n ∷ plain_from (n + 1) resources) (plain_from (n + 1) resources)) ≤ length (r ∷ resources)
  step true h = omega arith
  step false h = omega arith

-- nor more than may be declared
pub few_places : (c : Catalog) → length c.resources ≤ declared_bound → length (plain_places c) ≤ declared_bound
few_places c few = let h = shorter 0 c.resources in omega arith

-- each node is one of those of resources
pub node_low : (c : Catalog) (n : Node) → IsNode c n → rank n < bound_of c
node_low c n (IsNode.start p r real is) = let less = within c p r real in subst (λ m. rank m < bound_of c) (sym is) (omega arith)
node_low c n (IsNode.end p at is) = let less = within c p at.resource at.real in subst (λ m. rank m < bound_of c) (sym is) (omega arith)
