-- What is told of the programs of resources, for each question about them.
use Rattle.std.specs.Prelude.{◌≡◌, List, [], ℕ, map, Option, Some, None, slice_get}
use Rattle.rh_base.specs.declared.fault.Refusal.{Refusal}
use Rattle.fs_semantics.specs.Programs.{Program}
use Rattle.catalog_semantics.specs.Catalogs.{Catalog}
use Rattle.catalog_semantics.specs.declared.catalog.Resource.{Resource}
use Rattle.graph_semantics.specs.Graphs.{reference_at}
use Rattle.dep_graph.specs.declared.answer.Graph.{Graph}
use Rattle.known_inputs.specs.declared.inputs.Inputs.{Inputs}
use Rattle.known_inputs.specs.declared.inputs.Known.{Known}
use Rattle.known_inputs.specs.Inputs.{bytes_of}
use Rattle.given_entry.specs.Sizes.{IsTooLargeProbed}
use Rattle.entry_report.specs.Told.{IsEntryTold}
use Rattle.command_line.specs.declared.table.Role.TheVariants as role
use Rattle.reports.specs.declared.question.Question.{Question}
use Rattle.reports.specs.declared.question.Question.TheVariants as question
use Rattle.verdict_report.specs.declared.report.Report.{Report}
use Rattle.compiled_text.specs.Compiled.{Compiled}
use Rattle.compiled_text.specs.declared.catalog.CompiledResource.{CompiledResource}
use Rattle.reports.specs.Stages.{IsModelled, ProgramsRefusal}
use Rattle.reports.specs.Terms.{terms_of, notes_of, asked_on, wanted_in}
use Rattle.reports.specs.Reports.{program_lines}
use Rattle.given_verdict.specs.Limits.{IsTooLargeWith}
use Rattle.verdict_report.specs.Told.{IsTold}
use Rattle.repair_report.specs.Lines.{quoted_ref}
use Rattle.repair_report.specs.Told.{IsRepairTold}
use Rattle.reports.specs.Replays.{IsReplayed, HasNoOrder}
use Rattle.reports.specs.Explanations.{IsExplanation}

-- the references of the plain resources
abbrev pub names_in : Catalog → List ℕ → List (List ℕ)
names_in c plain = map (reference_at c) plain

-- the reference of a resource, as it is written in Puppet
abbrev pub quoted_of : Option Resource → List ℕ
quoted_of None = []
quoted_of (Some r) = quoted_ref r.id

-- the same by the type and the title that a compiled catalog tells, be it a file that is put together of fragments
abbrev pub quoted_as_told : Option CompiledResource → List ℕ
quoted_as_told None = []
quoted_as_told (Some r) = quoted_ref r.id

abbrev pub quoted_at : Option Compiled → Catalog → ℕ → List ℕ
quoted_at None c place = quoted_of (slice_get c.resources place)
quoted_at (Some m) c place = quoted_as_told (slice_get m.resources place)

-- the references of the plain resources, as they are written in Puppet
abbrev pub quoted_names_in : Option Compiled → Catalog → List ℕ → List (List ℕ)
quoted_names_in m c plain = map (quoted_at m c) plain

-- this is told of the programs
abbrev pub IsToldOf : Question → Inputs → Known → Option Compiled → Catalog → Graph → List Program → Report → Type 0
IsToldOf question.Programs i k m c g es report = (report.status ≡ 0) × (report.text ≡ program_lines k m c g.plain es)
IsToldOf (question.Verdict form conflicts) i k m c g es report = IsTold form (terms_of i k conflicts)
    (notes_of i k m g.plain) (names_in c g.plain) es g.order report
IsToldOf question.Replay i k m c g es report = (report.status ≡ 0) × IsReplayed (bytes_of role.Order i) k.tree c g es report.text
IsToldOf (question.Explain conflicts) i k m c g es report = IsExplanation (asked_on i k conflicts m g.plain) i m c g es report
IsToldOf (question.Repair conflicts) i k m c g es report = IsRepairTold (terms_of i k conflicts)
    (notes_of i k m g.plain) (quoted_names_in m c g.plain) es g.order report
IsToldOf (question.Ensures conflicts) i k m c g es report = IsEntryTold (terms_of i k conflicts)
    (notes_of i k m g.plain) (wanted_in i k) (names_in c g.plain) es g.order report

-- nothing is told of them, for this reason
abbrev pub HasNoAnswer : Question → Inputs → Known → Option Compiled → Catalog → Graph → List Program → Refusal → Type 0
HasNoAnswer question.Programs i k m c g es r = ⊥
HasNoAnswer (question.Verdict form conflicts) i k m c g es r = IsTooLargeWith i.limits k.given.folders es r
HasNoAnswer question.Replay i k m c g es r = HasNoOrder (bytes_of role.Order i) c g r
HasNoAnswer (question.Explain conflicts) i k m c g es r = IsTooLargeWith i.limits k.given.folders es r
HasNoAnswer (question.Repair conflicts) i k m c g es r = IsTooLargeWith i.limits k.given.folders es r
HasNoAnswer (question.Ensures conflicts) i k m c g es r = IsTooLargeProbed i.limits k.given.folders es (wanted_in i k) r

-- The report on the programs of the real plain resources of a manifest or a compiled catalog, in the order of the graph.
pub record IsReport (q : Question) (i : Inputs) (report : Report) : Type 0 where
  pub known : Known
  pub source : Option Compiled
  pub catalog : Catalog
  pub graph : Graph
  pub programs : List Program
  pub modelled : IsModelled i known source catalog graph programs
  pub told : IsToldOf q i known source catalog graph programs report

-- The first refusal: that of the programs, and then that nothing is told of them.
pub data ReportRefusal (q : Question) (i : Inputs) (r : Refusal) : Type 0 where
  before_answer : ProgramsRefusal i r → ReportRefusal q i r
  no_answer : (k : Known) (m : Option Compiled) (c : Catalog) (g : Graph) (es : List Program) → IsModelled i k m c g es
      → HasNoAnswer q i k m c g es r → ReportRefusal q i r
