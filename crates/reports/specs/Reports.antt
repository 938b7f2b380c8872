-- What is told of a catalog, of its graph, and of what its resources do.
use Rattle.std.specs.Prelude.{◌≡◌, ℕ, Bool, true, false, List, [], ◌∷◌, ◌++◌, length, Option, Some, None, codes}
use Rattle.orders.specs.Relation.{comes, Comes, IsStrictOrder}
use Rattle.fs_semantics.specs.Programs.{Program}
use Rattle.tree_text.specs.ProgramText.{program_text}
use Rattle.catalog_semantics.specs.Catalogs.{Catalog}
use Rattle.catalog_text.specs.CatalogText.{catalog_text}
use Rattle.graph_semantics.specs.Graphs.{printed_at, graph_text, IsGraphOf}
use Rattle.dep_graph.specs.declared.answer.Graph.{Graph}
use Rattle.known_inputs.specs.declared.inputs.Inputs.{Inputs}
use Rattle.known_inputs.specs.declared.inputs.Known.{Known}
use Rattle.compiled_text.specs.Compiled.{Compiled}
use Rattle.compiled_models.specs.Assumed as assumed
use Rattle.reports.specs.Stages.{IsCompiled, IsPlanned}

-- The text of the catalog that the files of a request give.
pub record IsCatalogReport (i : Inputs) (report : List ℕ) : Type 0 where
  pub known : Known
  pub source : Option Compiled
  pub catalog : Catalog
  pub compiled : IsCompiled i known source catalog
  pub text : report ≡ catalog_text catalog

-- The lines of a catalog's graph: its real plain resources, and which of them comes before which.
pub record IsGraphShown (c : Catalog) (lines : List ℕ) : Type 0 where
  pub graph : Graph
  pub of : IsGraphOf c graph.plain (Comes graph.order)
  pub count : graph.order.count ≡ length graph.plain
  pub strict : IsStrictOrder graph.order
  pub text : lines ≡ graph_text c graph.plain (comes graph.order)

-- The text of that catalog's graph.
pub record IsGraphReport (i : Inputs) (report : List ℕ) : Type 0 where
  pub known : Known
  pub source : Option Compiled
  pub catalog : Catalog
  pub graph : Graph
  pub planned : IsPlanned i known source catalog graph
  pub text : report ≡ graph_text catalog graph.plain (comes graph.order)

-- The program of the resource at a place is assumed. Nothing is assumed of a manifest's resources.
abbrev pub is_assumed_at : Known → Option Compiled → ℕ → Bool
is_assumed_at k None place = false
is_assumed_at k (Some m) place = assumed.is_assumed_at m.resources k.assumed place

-- behind the reference of a resource, that its program is assumed
abbrev pub assumed_mark : Bool → List ℕ
assumed_mark true = codes " (assumed)"
assumed_mark false = []

-- a line for a resource, and one for its program
abbrev pub resource_program : Bool → Catalog → ℕ → Program → List ℕ
resource_program is_assumed c place e = printed_at c place ++ (assumed_mark is_assumed ++ (codes "\n" ++ (program_text e ++ codes "\n")))

-- the lines of the resources at these places, each with its program
abbrev pub program_lines : Known → Option Compiled → Catalog → List ℕ → List Program → List ℕ
program_lines k m c [] es = []
program_lines k m c (place ∷ plain) [] = []
program_lines k m c (place ∷ plain) (e ∷ es) = resource_program (is_assumed_at k m place) c place e ++ program_lines k m c plain es
