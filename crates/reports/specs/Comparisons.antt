-- What is told of two manifests or two compiled catalogs that are compared, and which refusal comes first.
use Rattle.std.specs.Prelude.{◌⊎◌, ℕ, List, ◌∷◌, Option, Some, None}
use Rattle.rh_base.specs.declared.fault.Refusal.{Refusal}
use Rattle.fs_semantics.specs.Programs.{Program}
use Rattle.catalog_semantics.specs.Catalogs.{Catalog}
use Rattle.dep_graph.specs.declared.answer.Graph.{Graph}
use Rattle.command_line.specs.declared.table.Role.TheVariants as role
use Rattle.known_inputs.specs.declared.inputs.Inputs.{Inputs}
use Rattle.known_inputs.specs.declared.inputs.Known.{Known}
use Rattle.compiled_text.specs.Compiled.{Compiled}
use Rattle.command_line.specs.declared.table.Role.{Role}
use Rattle.known_inputs.specs.Inputs.{Bytes, bytes_of, bytes_or_none}
use Rattle.verdict_report.specs.declared.report.Report.{Report}
use Rattle.given_equal.specs.Sizes.{IsTooLargeJoined}
use Rattle.equal_report.specs.Told.{IsComparedTold}
use Rattle.reports.specs.declared.sides.Side.{Side}
use Rattle.reports.specs.declared.sides.Side.TheVariants as side
use Rattle.reports.specs.Stages.{IsModelled, ProgramsRefusal}
use Rattle.reports.specs.Terms.{terms_of, notes_of}
use Rattle.reports.specs.Questions.{names_in}

-- where what is asked about stands: in the place of a compiled catalog, if one is named, and else in that of the input
abbrev pub place_of_source : Bytes → Role
place_of_source None = role.Input
place_of_source (Some bytes) = role.Compiled

-- the files of a request, with the other manifest or compiled catalog in the place of the one that is asked about; no entry is wanted
abbrev pub other_inputs : Inputs → Inputs
other_inputs i = record i {
  wanted = None;
  files = (place_of_source (bytes_of role.Compiled i), bytes_or_none (bytes_of role.Other i)) ∷ i.files;
}

-- The files beside them say this, and both manifests, or both compiled catalogs, have programs under it.
pub record AreModelled (i : Inputs) : Type 0 where
  pub known : Known
  pub source : Option Compiled
  pub catalog : Catalog
  pub graph : Graph
  pub programs : List Program
  pub modelled : IsModelled i known source catalog graph programs
  pub other_source : Option Compiled
  pub other_catalog : Catalog
  pub other_graph : Graph
  pub other_programs : List Program
  pub other_modelled : IsModelled (other_inputs i) known other_source other_catalog other_graph other_programs

-- the references of the resources of both
abbrev pub names_of : {i : Inputs} → AreModelled i → List (List ℕ)
names_of m = names_in m.catalog m.graph.plain

abbrev pub other_names_of : {i : Inputs} → AreModelled i → List (List ℕ)
other_names_of m = names_in m.other_catalog m.other_graph.plain

-- What is told of both.
pub record IsComparison (conflicts : Option ℕ) (i : Inputs) (report : Report) : Type 0 where
  pub of : AreModelled i
  pub told : IsComparedTold (terms_of i of.known conflicts) (notes_of i of.known of.source of.graph.plain)
      (notes_of i of.known of.other_source of.other_graph.plain)
      (names_of of) of.programs of.graph.order (other_names_of of) of.other_programs of.other_graph.order report

-- the programs of both are too large to be compared
pub record IsTooLargeFor (i : Inputs) (r : Refusal) : Type 0 where
  pub of : AreModelled i
  pub too_large : IsTooLargeJoined i.limits of.known.given.folders of.programs of.other_programs r

-- the first manifest has programs, and this is the refusal of the other
pub record IsRefusedInOther (i : Inputs) (r : Refusal) : Type 0 where
  pub known : Known
  pub source : Option Compiled
  pub catalog : Catalog
  pub graph : Graph
  pub programs : List Program
  pub modelled : IsModelled i known source catalog graph programs
  pub refused : ProgramsRefusal (other_inputs i) r

-- The first refusal: that of the files beside the manifests and of the input, then that of the other manifest, and then that both
-- are too large to be compared.
abbrev pub ComparisonRefusal : Inputs → Side → Refusal → Type 0
ComparisonRefusal i side.Input r = ProgramsRefusal i r ⊎ IsTooLargeFor i r
ComparisonRefusal i side.Other r = IsRefusedInOther i r
