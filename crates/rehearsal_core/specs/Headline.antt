-- The headline: what each status of a verdict promises of a manifest, or of a catalog that Puppet compiled, over every file tree in
-- which the given folders stand and all orders that its graph allows. The given folders are those that a text names which the words
-- name; without it there are none, so that these are all file trees.
--
-- Of a machine this is true where each resource does there what its program does, where the listing tells the files of each package and
-- equal digests are those of equal contents, and where the given folders and links stand. Of a compiled catalog it rests besides on
-- these premises: the text is what an agent applies; each resource of which something is assumed does what is assumed of it; and edits
-- of one file by different resources commute, since each is taken to leave a mark of its own.
use Rattle.std.specs.Prelude.{◌≡◌, ◌⊎◌, ℕ, List, [], ◌++◌, length, Option, None}
use Rattle.fs_semantics.specs.FileTree.{Path, Tree, IsTree}
use Rattle.fs_semantics.specs.Programs.{Program}
use Rattle.given_hosts.specs.Given.{IsGivenTree}
use Rattle.given_links.specs.Reading.{program_read_as}
use Rattle.orders.specs.Relation.{Relation, Comes}
use Rattle.catalog_semantics.specs.Catalogs.{Catalog}
use Rattle.dep_graph.specs.declared.answer.Graph.{Graph}
use Rattle.question_terms.specs.declared.terms.Terms.{Terms}
use Rattle.wanted_entry.specs.declared.wanted.Wanted.{Wanted}
use Rattle.determinism.specs.First.{IsPrunedCount}
use Rattle.command_line.specs.declared.table.Ask.{Ask}
use Rattle.command_line.specs.declared.table.Ask.TheVariants as ask
use Rattle.command_line.specs.declared.table.Role.TheVariants as role
use Rattle.command_line.specs.declared.request.Request.{Request}
use Rattle.known_inputs.specs.declared.inputs.Known.{Known}
use Rattle.compiled_text.specs.Compiled.{Compiled}
use Rattle.reports.specs.Stages.{IsModelled}
use Rattle.reports.specs.Terms.{terms_of, notes_of, wanted_in}
use Rattle.reports.specs.Questions.{names_in, quoted_names_in}
use Rattle.verdict_report.specs.declared.report.Form.{Form}
use Rattle.verdict_report.specs.declared.report.Form.TheVariants as form
use Rattle.verdict_report.specs.declared.report.Report.{Report}
use Rattle.verdict_report.specs.Lines.{head_lines}
use Rattle.verdict_report.specs.Told.{IsSure, IsDifferent, IsChanged, IsUnanswered}
use Rattle.repair_report.specs.Told as repairs
use Rattle.repair_report.specs.Told.{TellsArrows}
use Rattle.entry_report.specs.Told.{TellsEnsured, TellsMissed, TellsSpent}
use Rattle.equal_report.specs.Told as comparison
use Rattle.equal_report.specs.Told.{OneDiffers, OneIsUnanswered, TellsEqual, TellsUnequal}
use Rattle.reports.specs.Comparisons as comparisons
use Rattle.reports.specs.Comparisons.{AreModelled, other_names_of}
use Rattle.reports.specs.Explanations.{AreNamed, IsNodeNote}
use Rattle.explain_report.specs.Told.{ExplainsSure, ExplainsDifference, ExplainsChange, ExplainsSpent}
use Rattle.known_inputs.specs.Inputs.{bytes_of}
use Rattle.rehearsal_core.specs.declared.inputs.Loaded.{Loaded}
use Rattle.rehearsal_core.specs.Inputs.{Requests, IsLoaded}
use Rattle.rehearsal_core.specs.Runs.{Run, Appends}

-- which `--ask` asks for a verdict in this form
abbrev pub ask_for : Form → Ask
ask_for form.Lines = ask.Verify
ask_for form.Proofs = ask.Proof

-- the words ask for a verdict
abbrev pub AsksForVerdict : Run → Type 0
AsksForVerdict run = (request : Request) × Requests run.words request × (f : Form) × (request.ask ≡ ask_for f)

-- this value of `--ask` asks for the order of a graph, and has it told in this form
abbrev pub AsksInForm : Ask → Form → Type 0
AsksInForm a f = (a ≡ ask_for f) ⊎ ((a ≡ ask.Ensures) × (f ≡ form.Lines))

-- the words ask for an entry that is wanted
abbrev pub AsksForEntry : Run → Type 0
AsksForEntry run = (request : Request) × Requests run.words request × (request.ask ≡ ask.Ensures)

-- the words ask for a repair
abbrev pub AsksForRepair : Run → Type 0
AsksForRepair run = (request : Request) × Requests run.words request × (request.ask ≡ ask.Repair)

-- the words ask whether two manifests, or two compiled catalogs, do the same
abbrev pub AsksForComparison : Run → Type 0
AsksForComparison run = (request : Request) × Requests run.words request × (request.ask ≡ ask.Equal)

-- the words ask for an explanation of a verdict
abbrev pub AsksForExplanation : Run → Type 0
AsksForExplanation run = (request : Request) × Requests run.words request × (request.ask ≡ ask.Explain)

-- What is asked about: a manifest, or the compiled catalog that is its source. The words ask so; the files that they name, or the
-- workload, say what is known beside it, and give it this catalog, the catalog this graph, and its resources these programs, which are
-- read through the given links.
pub record Modelled (run : Run) (a : Ask) : Type 0 where
  pub request : Request
  pub made : Requests run.words request
  pub asked : request.ask ≡ a
  pub loaded : Loaded
  pub stands : IsLoaded run.held request loaded
  pub known : Known
  pub source : Option Compiled
  pub catalog : Catalog
  pub graph : Graph
  pub programs : List Program
  pub modelled : IsModelled loaded.inputs known source catalog graph programs

-- on what terms it is asked: from the trees in which the given folders stand, within the limits and the conflicts that the words give
abbrev pub terms_for : {run : Run} {a : Ask} → Modelled run a → Terms
terms_for m = terms_of m.loaded.inputs m.known m.loaded.conflicts

-- the lines behind the number of resources
abbrev pub notes_for : {run : Run} {a : Ask} → Modelled run a → List ℕ
notes_for m = notes_of m.loaded.inputs m.known m.source m.graph.plain

-- the entry that is wanted, its path read through the given links
abbrev pub wanted_for : {run : Run} {a : Ask} → Modelled run a → Wanted
wanted_for m = wanted_in m.loaded.inputs m.known

-- What is judged. The words ask so about this, of which pruning leaves aside so many, and have it told in this form.
pub record Judged (run : Run) : Type 0 where
  pub ask : Ask
  pub form : Form
  pub told : AsksInForm ask form
  pub of : Modelled run ask
  pub pruned : ℕ
  pub count : IsPrunedCount of.programs (Comes of.graph.order) pruned

-- the names of the resources
abbrev pub names_of : {run : Run} → Judged run → List (List ℕ)
names_of j = names_in j.of.catalog j.of.graph.plain

-- Status 0: from every file tree in which the given folders stand all allowed orders end in one same tree or all in error, and a second
-- run changes nothing. The last line tells whether some such tree has a run without error.
pub record IsWell (run : Run) : Type 0 where
  pub judged : Judged run
  pub report : Report
  pub sure : IsSure judged.form (terms_for judged.of) (notes_for judged.of) judged.of.programs judged.of.graph.order judged.pruned report
  pub written : Appends report.text run.out

-- Status 1: from the tree that is told, in which the given folders stand, two allowed orders have the outcomes that are told, and these
-- differ.
pub record DependsOnOrder (run : Run) : Type 0 where
  pub judged : Judged run
  pub report : Report
  pub different : IsDifferent judged.form (terms_for judged.of) (notes_for judged.of)
      (names_of judged) judged.of.programs judged.of.graph.order judged.pruned report
  pub written : Appends report.text run.out

-- Status 2: from every file tree in which the given folders stand all allowed orders end alike, but from the tree that is told, which is
-- such a one, a second run changes what the first one left.
pub record ChangesAgain (run : Run) : Type 0 where
  pub judged : Judged run
  pub report : Report
  pub changed : IsChanged judged.form (terms_for judged.of) (notes_for judged.of)
      (names_of judged) judged.of.programs judged.of.graph.order judged.pruned report
  pub written : Appends report.text run.out

-- Status 3: the conflicts that the words give were spent on the question that is told, and what is told ahead of it is true.
pub record SpendsConflicts (run : Run) : Type 0 where
  pub judged : Judged run
  pub report : Report
  pub unanswered : IsUnanswered judged.form (terms_for judged.of)
      (notes_for judged.of) judged.of.programs judged.of.graph.order judged.pruned report
  pub written : Appends report.text run.out

-- Status 0 of an entry that is wanted: from every file tree in which the given folders stand all allowed orders end alike, and each
-- that ends leaves the entry.
pub record LeavesEntry (run : Run) : Type 0 where
  pub judged : Judged run
  pub asked : judged.ask ≡ ask.Ensures
  pub report : Report
  pub ensured : TellsEnsured (terms_for judged.of) (notes_for judged.of)
      (wanted_for judged.of) judged.of.programs judged.of.graph.order judged.pruned report
  pub written : Appends report.text run.out

-- Status 9: from every file tree in which the given folders stand all allowed orders end alike; but from the tree that is told, which is
-- such a one, the order that is told, which is allowed, ends in the tree that is told, without the entry that is wanted.
pub record MissesEntry (run : Run) : Type 0 where
  pub judged : Judged run
  pub asked : judged.ask ≡ ask.Ensures
  pub report : Report
  pub missed : TellsMissed (terms_for judged.of) (notes_for judged.of) (wanted_for judged.of)
      (names_of judged) judged.of.programs judged.of.graph.order judged.pruned report
  pub written : Appends report.text run.out

-- Status 3 behind `deterministic`: the conflicts that the words give were spent on whether each run leaves the entry, or whether any
-- ends.
pub record SpendsOnEntry (run : Run) : Type 0 where
  pub judged : Judged run
  pub asked : judged.ask ≡ ask.Ensures
  pub report : Report
  pub unanswered : TellsSpent (terms_for judged.of) (notes_for judged.of)
      (wanted_for judged.of) judged.of.programs judged.of.graph.order judged.pruned report
  pub written : Appends report.text run.out

-- Status 0 of a repair: with the arrows that are told, every file tree in which the given folders stand has one outcome whatever the
-- order; none of them can be left out; and they point the way that succeeds.
pub record IsMended (run : Run) : Type 0 where
  pub of : Modelled run ask.Repair
  pub report : Report
  pub repaired : TellsArrows (terms_for of) (notes_for of)
      (quoted_names_in of.source of.catalog of.graph.plain) of.programs of.graph.order report
  pub written : Appends report.text run.out

-- Status 3 of a repair: the conflicts that the words give were spent on whether the graph is deterministic with some arrows.
pub record SpendsOnRepair (run : Run) : Type 0 where
  pub of : Modelled run ask.Repair
  pub report : Report
  pub unrepaired : repairs.TellsSpent (terms_for of) (notes_for of) of.programs of.graph.order report
  pub written : Appends report.text run.out

-- What is compared: two manifests, or two compiled catalogs. The words ask so; the files that they name say what is known beside both,
-- and give each its catalog, its graph and its programs.
pub record IsCompared (run : Run) : Type 0 where
  pub request : Request
  pub made : Requests run.words request
  pub asked : request.ask ≡ ask.Equal
  pub loaded : Loaded
  pub stands : IsLoaded run.held request loaded
  pub of : AreModelled loaded.inputs

-- what is told of both
abbrev pub OfBoth : {run : Run} → IsCompared run → (List Program → Relation → List Program → Relation → Type 0) → Type 0
OfBoth c told = told c.of.programs c.of.graph.order c.of.other_programs c.of.other_graph.order

-- the same, with the references of their resources
abbrev pub OfBothNamed : {run : Run} → IsCompared run
    → (List (List ℕ) → List Program → Relation → List (List ℕ) → List Program → Relation → Type 0) → Type 0
OfBothNamed c told = told (comparisons.names_of c.of) c.of.programs c.of.graph.order
    (other_names_of c.of) c.of.other_programs c.of.other_graph.order

-- on what terms both are asked about
abbrev pub terms_for_both : {run : Run} → IsCompared run → Terms
terms_for_both c = terms_of c.loaded.inputs c.of.known c.loaded.conflicts

-- the lines behind the number of resources of the left one, and of the right one
abbrev pub left_notes : {run : Run} → IsCompared run → List ℕ
left_notes c = notes_of c.loaded.inputs c.of.known c.of.source c.of.graph.plain

abbrev pub right_notes : {run : Run} → IsCompared run → List ℕ
right_notes c = notes_of c.loaded.inputs c.of.known c.of.other_source c.of.other_graph.plain

-- Status 0 of a comparison: both graphs are deterministic, and from every file tree in which the given folders stand all allowed orders
-- of both end in one same tree or all in error.
pub record DoTheSame (run : Run) : Type 0 where
  pub compared : IsCompared run
  pub report : Report
  pub equal : OfBoth compared
      (λ es order fs other. TellsEqual (terms_for_both compared) (left_notes compared)
      (right_notes compared) es order fs other report)
  pub written : Appends report.text run.out

-- Status 10: both graphs are deterministic, but from the tree that is told, in which the given folders stand, an order that the left one allows and an order that the
-- right one allows have the outcomes that are told, and these differ.
pub record DoOtherwise (run : Run) : Type 0 where
  pub compared : IsCompared run
  pub report : Report
  pub unequal : OfBothNamed compared
      (λ names es order others fs other. TellsUnequal (terms_for_both compared) (left_notes compared)
      (right_notes compared) names es order others fs other report)
  pub written : Appends report.text run.out

-- Status 1 of a comparison: from the tree that is told, in which the given folders stand, two orders that one of the graphs allows have the outcomes that are told, and
-- these differ; and a `deterministic` ahead of them is true of the left one.
pub record OneDependsOnOrder (run : Run) : Type 0 where
  pub compared : IsCompared run
  pub report : Report
  pub differs : OfBothNamed compared
      (λ names es order others fs other. OneDiffers (terms_for_both compared) (left_notes compared)
      (right_notes compared) names es order others fs other report)
  pub written : Appends report.text run.out

-- Status 3 of a comparison: the conflicts that the words give were spent on whether one of the graphs is deterministic, or whether
-- both do the same, and what is told ahead of it is true.
pub record SpendsOnComparison (run : Run) : Type 0 where
  pub compared : IsCompared run
  pub report : Report
  pub unanswered : OfBoth compared (λ es order fs other.
      OneIsUnanswered (terms_for_both compared) (left_notes compared) (right_notes compared) es order fs other report
      ⊎ comparison.TellsSpent (terms_for_both compared) (left_notes compared) (right_notes compared) es order fs other report)
  pub written : Appends report.text run.out

-- What is explained. The words ask so about this. Its resources are named with the places at which they stand in the manifest, or at
-- which Puppet found them in one; this line tells the node block that runs, where a manifest has node blocks; and pruning leaves aside
-- so many.
pub record Explained (run : Run) : Type 0 where
  pub of : Modelled run ask.Explain
  pub names : List (List ℕ)
  pub named : AreNamed of.loaded.inputs of.source of.catalog of.graph.plain names
  pub node : List ℕ
  pub noted : IsNodeNote of.loaded.inputs of.source node
  pub pruned : ℕ
  pub count : IsPrunedCount of.programs (Comes of.graph.order) pruned

-- the lines on their number
abbrev pub head_of : {run : Run} → Explained run → List ℕ
head_of e = head_lines (length e.of.programs) (e.node ++ notes_for e.of) e.pruned

-- the given folders
abbrev pub given_for : {run : Run} → Explained run → List Path
given_for e = e.of.known.given.folders

-- Status 0 of an explanation: from every file tree in which the given folders stand all allowed orders end in one same tree or all in
-- error, and a second run changes nothing. Where no such tree has a run without error, the last line tells where the first extension
-- fails from the tree of the given folders alone.
pub record IsWellExplained (run : Run) : Type 0 where
  pub explained : Explained run
  pub report : Report
  pub sure : ExplainsSure (given_for explained) explained.names explained.of.programs explained.of.graph.order (head_of explained) report
  pub written : Appends report.text run.out

-- Status 1 of an explanation: from the tree that is told, in which the given folders stand, two allowed orders have outcomes that
-- differ. What is told are the two neighbours in which the orders differ, how each run ends, and the paths at which the outcomes differ.
pub record TellsWhyOrderMatters (run : Run) : Type 0 where
  pub explained : Explained run
  pub report : Report
  pub different : ExplainsDifference
      (given_for explained) explained.names explained.of.programs explained.of.graph.order (head_of explained) report
  pub written : Appends report.text run.out

-- Status 2 of an explanation: from every file tree in which the given folders stand all allowed orders end alike, but from the tree that
-- is told, which is such a one, a second run changes what the first one left. What is told is how the second run ends, and the paths at
-- which it changed something. Where no folder is given both runs are in the first extension.
pub record TellsWhatChanges (run : Run) : Type 0 where
  pub explained : Explained run
  pub report : Report
  pub changed : ExplainsChange (given_for explained) explained.names explained.of.programs explained.of.graph.order
      (head_of explained) report
  pub written : Appends report.text run.out

-- Status 3 of an explanation: the conflicts that the words give were spent on the question that is told, and what is told ahead of it
-- is true.
pub record SpendsOnExplanation (run : Run) : Type 0 where
  pub explained : Explained run
  pub report : Report
  pub unanswered : ExplainsSpent (terms_for explained.of) explained.of.programs explained.of.graph.order (head_of explained) report
  pub written : Appends report.text run.out

-- Nothing is given: every file tree is one in which the given folders stand, and each program is read as it is.
pub record IsOfEveryTree (k : Known) : Type 0 where
  pub none : k.given.folders ≡ []
  pub trees : (t : Tree) → IsTree t → IsGivenTree k.given.folders t
  pub programs : (e : Program) → program_read_as k.given.links e ≡ e

-- both are manifests
abbrev pub AreManifests : {run : Run} → IsCompared run → Type 0
AreManifests c = (c.of.source ≡ None) × (c.of.other_source ≡ None)

-- What each status promises. 1 comes of a verdict, its explanation, an entry that is wanted or a comparison, 2 of a verdict and its
-- explanation, 3 of these and of a repair, 9 of an entry, 10 of a comparison; other questions have no other status than 0.
pub record Headline (run : Run) (status : ℕ) : Type 0 where
  pub well : AsksForVerdict run → status ≡ 0 → IsWell run
  pub depends : status ≡ 1 → DependsOnOrder run ⊎ (OneDependsOnOrder run ⊎ TellsWhyOrderMatters run)
  pub changes : status ≡ 2 → ChangesAgain run ⊎ TellsWhatChanges run
  pub spends : status ≡ 3 → SpendsConflicts run
      ⊎ (SpendsOnRepair run ⊎ (SpendsOnEntry run ⊎ (SpendsOnComparison run ⊎ SpendsOnExplanation run)))
  pub mended : AsksForRepair run → status ≡ 0 → IsMended run
  pub leaves : AsksForEntry run → status ≡ 0 → LeavesEntry run
  pub misses : status ≡ 9 → MissesEntry run
  pub equal : AsksForComparison run → status ≡ 0 → DoTheSame run
  pub unequal : status ≡ 10 → DoOtherwise run
  pub explained : AsksForExplanation run → status ≡ 0 → IsWellExplained run
  -- where the words name no text of what every host has, all this is said of every file tree, and of the programs as they are
  pub every_tree : (a : Ask) → (m : Modelled run a) → bytes_of role.Given m.loaded.inputs ≡ None → IsOfEveryTree m.known
  pub every_tree_of_both : (c : IsCompared run) → bytes_of role.Given c.loaded.inputs ≡ None → IsOfEveryTree c.of.known
  -- where they name no compiled catalog, it is said of a manifest, of which nothing is assumed
  pub of_manifest : (a : Ask) → (m : Modelled run a) → bytes_of role.Compiled m.loaded.inputs ≡ None → m.source ≡ None
  pub of_manifests : (c : IsCompared run) → bytes_of role.Compiled c.loaded.inputs ≡ None → AreManifests c
