-- Automatic edges between files.
use Rattle.std.specs.Prelude.{◌≡◌, ◌↔◌, ℕ, Bool, ◌&&◌, nat_lt, nat_le, max, if◌then◌else◌, List, [], ◌∷◌, length, codes, Option, Some, None, slice_get}
use Rattle.std.specs.List.{Contains, flat_map}
use Rattle.fs_semantics.specs.FileTree.{Path}
use Rattle.fs_lang.specs.PathText.{IsPathText}
use Rattle.fs_lang.specs.Managed.{IsReserved}
use Rattle.fs_lang.specs.Fronts.{is_front}
use Rattle.catalog_semantics.specs.declared.catalog.Resource.{Resource}
use Rattle.catalog_semantics.specs.Catalogs.{Catalog}
use Rattle.graph_semantics.specs.Automatic.{path_text_of}
use Rattle.dep_graph.specs.Named.{kept_edges}
use Rattle.dep_graph.specs.declared.links.Link.{Link}
use Rattle.dep_graph.specs.declared.files.ManagedFile.{ManagedFile}

-- the resource is a file of this path, which isn't one that is refused
pub record FilePath (r : Resource) (p : Path) : Type 0 where
  pub kind : r.id.kind ≡ codes "file"
  pub text : List ℕ
  pub given : path_text_of r ≡ Some text
  pub spelled : IsPathText text p
  pub free : IsReserved p → ⊥

-- the text spells this path, and it isn't one that is refused
abbrev pub PathIs : List ℕ → Option Path → Type 0
PathIs text None = (p : Path) → IsPathText text p → (IsReserved p → ⊥) → ⊥
PathIs text (Some p) = IsPathText text p × (IsReserved p → ⊥)

-- the path of a resource that is a file, if it is one
abbrev pub FilePathIs : Resource → Option Path → Type 0
FilePathIs r None = (p : Path) → FilePath r p → ⊥
FilePathIs r (Some p) = FilePath r p

-- the resource at one of these places is a file of this path
pub record IsFileAmong (c : Catalog) (places : List ℕ) (f : ManagedFile) : Type 0 where
  pub place : Contains places f.place
  pub resource : Resource
  pub at : slice_get c.resources f.place ≡ Some resource
  pub file : FilePath resource f.path

-- these are the files at these places
abbrev pub AreFiles : Catalog → List ℕ → List ManagedFile → Type 0
AreFiles c places files = (f : ManagedFile) → Contains files f ↔ IsFileAmong c places f

-- ---- the nearest file above

-- p is above q
abbrev pub is_above : Path → Path → Bool
is_above p q = nat_lt (length p) (length q) && is_front p q

-- how many segments the nearest of these above a path has
abbrev pub nearest : List ManagedFile → Path → ℕ
nearest [] p = 0
nearest (f ∷ files) p = if is_above f.path p then max (length f.path) (nearest files p) else nearest files p

-- q is above p and has n segments or more
abbrev pub is_nearest : ℕ → Path → Path → Bool
is_nearest n p q = is_above q p && nat_le n (length q)

-- the places of the files that are above a path, with so many segments or more
abbrev pub places_above : ℕ → Path → List ManagedFile → List ℕ
places_above n p [] = []
places_above n p (f ∷ files) = if is_nearest n p f.path then f.place ∷ places_above n p files else places_above n p files

-- the places of the nearest files above a path
abbrev pub nearest_places : List ManagedFile → Path → List ℕ
nearest_places files p = places_above (nearest files p) p files

-- the edges from the nearest of files above each of fs
abbrev pub edges_from : List Link → List ManagedFile → List ManagedFile → List (ℕ × ℕ)
edges_from links files fs = flat_map (λ f. kept_edges links f.place (nearest_places files f.path)) fs

-- the edges from the nearest files above
abbrev pub file_edges : List Link → List ManagedFile → List (ℕ × ℕ)
file_edges links files = edges_from links files files
