-- All edges of a catalog, between numbers.
use Rattle.std.specs.Prelude.{◌≡◌, ℕ, ◌*◌, List, [], ◌++◌, length, Ok}
use Rattle.catalog_semantics.specs.Catalogs.{Catalog}
use Rattle.graph_semantics.specs.Relations.{all_relations}
use Rattle.graph_semantics.specs.Graphs.{plain_places}
use Rattle.dep_graph.specs.Links.{with_links}
use Rattle.dep_graph.specs.Numbered.{structure_edges, edges_of_links, hubs_after}
use Rattle.dep_graph.specs.Named.{named_edges}
use Rattle.dep_graph.specs.Files.{AreFiles, file_edges}
use Rattle.dep_graph.specs.declared.links.Link.{Link}
use Rattle.dep_graph.specs.declared.files.ManagedFile.{ManagedFile}

-- how many numbers the resources take: two each
abbrev pub bound_of : Catalog → ℕ
bound_of c = 2 * length c.resources

-- all edges: of containers, of relations, and the automatic ones
abbrev pub all_edges : Catalog → List Link → List ManagedFile → List (ℕ × ℕ)
all_edges c links files =
    structure_edges c (length c.resources) ++ (edges_of_links (bound_of c) links
    ++ (named_edges c links (plain_places c) (plain_places c) ++ file_edges links files))

-- how many numbers all nodes take
abbrev pub count_of : Catalog → List Link → ℕ
count_of c links = hubs_after (bound_of c) links

-- the relations of the catalog
abbrev pub AreLinks : Catalog → List Link → Type 0
AreLinks c links = with_links c (all_relations c) [] ≡ Ok links

-- all edges, where a file's are found by its path
pub record AreEdges (c : Catalog) (links : List Link) (edges : List (ℕ × ℕ)) : Type 0 where
  pub files : List ManagedFile
  pub files_are : AreFiles c (plain_places c) files
  pub edges_are : edges ≡ all_edges c links files
