-- What is explained of resources.
use Rattle.std.specs.Prelude.{◌≡◌, ℕ, List, [], ◌++◌, map, slice_get, Option, Some, None}
use Rattle.printed_names.specs.Printed.{printed}
use Rattle.graph_semantics.specs.Graphs.{reference_at}
use Rattle.compiled_text.specs.Compiled.{Compiled}
use Rattle.compiled_text.specs.declared.catalog.CompiledResource.{CompiledResource}
use Rattle.compiled_relations.specs.Finding.{name_and_line}
use Rattle.fs_semantics.specs.Programs.{Program}
use Rattle.catalog_semantics.specs.Catalogs.{Catalog}
use Rattle.dep_graph.specs.declared.answer.Graph.{Graph}
use Rattle.known_inputs.specs.declared.inputs.Inputs.{Inputs}
use Rattle.known_inputs.specs.Inputs.{input_of}
use Rattle.node_label.specs.Labels.{IsNodeLineOf}
use Rattle.placed_names.specs.Placed.{AreNamesAt}
use Rattle.verdict_report.specs.declared.report.Report.{Report}
use Rattle.explain_report.specs.Told.{IsExplained}
use Rattle.reports.specs.Stages.{node_name}
use Rattle.reports.specs.declared.terms.Asked.{Asked}

-- the reference of a resource of a compiled catalog, as it is printed, and behind it the file and the line that declare it
abbrev pub placed_name : Catalog → ℕ → Option CompiledResource → List ℕ
placed_name c place None = []
placed_name c place (Some r) = printed (name_and_line r (reference_at c place))

-- The resources are named with the places at which they stand in the manifest, or at which Puppet found them in one.
abbrev pub AreNamed : Inputs → Option Compiled → Catalog → List ℕ → List (List ℕ) → Type 0
AreNamed i None c plain names = AreNamesAt (input_of i) c plain names
AreNamed i (Some m) c plain names = names ≡ map (λ place. placed_name c place (slice_get m.resources place)) plain

-- the line on the node block that runs, where a manifest has node blocks; a compiled catalog has none
abbrev pub IsNodeNote : Inputs → Option Compiled → List ℕ → Type 0
IsNodeNote i None node = IsNodeLineOf (input_of i) (node_name i.node) node
IsNodeNote i (Some m) node = node ≡ []

-- Resources are named with their places. Behind their number stand the name of the node block that runs, where there are node blocks, and
-- the notes.
pub record IsExplanation (asked : Asked) (i : Inputs) (m : Option Compiled) (c : Catalog) (g : Graph)
    (es : List Program) (report : Report) : Type 0 where
  pub names : List (List ℕ)
  pub named : AreNamed i m c g.plain names
  pub node : List ℕ
  pub noted : IsNodeNote i m node
  pub told : IsExplained asked.terms (node ++ asked.notes) names es g.order report
