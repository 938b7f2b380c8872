-- The request that the words make, the files that it names, and what stands under their names.
use Rattle.std.specs.Prelude.{◌≡◌, ◌⊎◌, ℕ, List, [], ◌∷◌, map, Option, None, String, string_bytes}
use Rattle.std.specs.declared.alloc.Global.{Global}
use Rattle.rh_base.specs.declared.fault.Refusal.{Refusal}
use Rattle.rh_base.specs.Shelf.{Held}
use Rattle.host_limits.specs.declared.limits.Limits.TheVariants as limits
use Rattle.command_line.specs.declared.table.Ask.{Ask}
use Rattle.command_line.specs.declared.table.Ask.TheVariants as ask
use Rattle.command_line.specs.declared.request.Request.{Request}
use Rattle.command_line.specs.declared.request.Source.{Source}
use Rattle.command_line.specs.declared.request.Source.TheVariants as source
use Rattle.command_line.specs.declared.table.Role.TheVariants as role
use Rattle.command_line.specs.Table.{ByRole, input_kind}
use Rattle.command_line.specs.Words.{Makes}
use Rattle.request_files.specs.Files.{AreRead, FirstTooLong, FirstFailed, NoneMissing, AnyMissing, AllTold}
use Rattle.known_inputs.specs.Inputs.{input_of}
use Rattle.rehearsal_core.specs.declared.inputs.Loaded.{Loaded}
use Rattle.known_inputs.specs.declared.inputs.Inputs.{Inputs}
use Rattle.verdict_report.specs.declared.report.Report.{Report}
use Rattle.verdict_report.specs.declared.report.Form.TheVariants as form
use Rattle.workload.specs.Workload.{manifest_text, listing_text}
use Rattle.reports.specs.declared.question.Question.TheVariants as question
use Rattle.reports.specs.Stages.{CatalogRefusal, GraphRefusal}
use Rattle.reports.specs.Reports.{IsCatalogReport, IsGraphReport}
use Rattle.reports.specs.Questions.{IsReport, ReportRefusal}
use Rattle.reports.specs.declared.sides.Side.{Side}
use Rattle.reports.specs.Sides.{OfInput}
use Rattle.reports.specs.Comparisons.{IsComparison, ComparisonRefusal}
use Rattle.rehearsal_core.specs.Verified.{AreVerified, BreaksProofRule}
use Rattle.rehearsal_core.specs.Migrated.{IsMigrated, BreaksListingRule}

-- ---- requests

-- the words make this request
abbrev pub Requests : List (String Global) → Request → Type 0
Requests words request = Makes (map string_bytes words) request

-- the words make no request
abbrev pub RequestsNone : List (String Global) → Type 0
RequestsNone words = (request : Request) → Requests words request → ⊥

-- ---- the files of a request

-- the names of the files that a request is about; a workload has none
abbrev pub files_in : Source → ByRole (List ℕ)
files_in (source.Files names) = names
files_in (source.Workload n) = []

-- the names of the files of a request
abbrev pub files_of : Request → ByRole (List ℕ)
files_of r = files_in r.source

-- the manifest of a workload of size n, and its listing
abbrev pub workload_inputs : ℕ → Inputs
workload_inputs n = record {
  node = None;
  limits = limits.Usual;
  wanted = None;
  files = (role.Packages, listing_text n) ∷ (role.Input, manifest_text n) ∷ [];
}

-- what a request is about: files, or a workload
abbrev pub AreInputs : Held → Request → Source → Inputs → Type 0
AreInputs held r (source.Files names) i = (i.node ≡ r.node) × (i.limits ≡ r.limits) × (i.wanted ≡ r.wanted)
    × AreRead held (input_kind r.ask names) names i.files
AreInputs held r (source.Workload n) i = i ≡ workload_inputs n

-- the request with the bytes that it is about
pub record IsLoaded (held : Held) (r : Request) (l : Loaded) : Type 0 where
  pub asked : l.ask ≡ r.ask
  pub conflicts : l.conflicts ≡ r.conflicts
  pub inputs : AreInputs held r r.source l.inputs

-- ---- what is said of a request

-- this text was asked for
abbrev pub IsPrinted : (List ℕ → Type 0) → Report → Type 0
IsPrinted IsText report = (report.status ≡ 0) × IsText report.text

-- what may be said of the files of a request
abbrev pub IsAnswerTo : Ask → Option ℕ → Inputs → Report → Type 0
IsAnswerTo ask.Verify conflicts i report = IsReport (question.Verdict form.Lines conflicts) i report
IsAnswerTo ask.Proof conflicts i report = IsReport (question.Verdict form.Proofs conflicts) i report
IsAnswerTo ask.Catalog conflicts i report = IsPrinted (IsCatalogReport i) report
IsAnswerTo ask.Graph conflicts i report = IsPrinted (IsGraphReport i) report
IsAnswerTo ask.Programs conflicts i report = IsReport question.Programs i report
IsAnswerTo ask.Replay conflicts i report = IsReport question.Replay i report
IsAnswerTo ask.Check conflicts i report = IsPrinted (AreVerified (input_of i)) report
IsAnswerTo ask.Migrate conflicts i report = IsPrinted (IsMigrated (input_of i)) report
IsAnswerTo ask.Repair conflicts i report = IsReport (question.Repair conflicts) i report
IsAnswerTo ask.Ensures conflicts i report = IsReport (question.Ensures conflicts) i report
IsAnswerTo ask.Equal conflicts i report = IsComparison conflicts i report
IsAnswerTo ask.Explain conflicts i report = IsReport (question.Explain conflicts) i report

-- what may be said of what was loaded
abbrev pub IsAnswer : Loaded → Report → Type 0
IsAnswer l report = IsAnswerTo l.ask l.conflicts l.inputs report

-- the first rule that the files break, and which manifest or compiled catalog does
abbrev pub BreaksFor : Ask → Option ℕ → Inputs → Side → Refusal → Type 0
BreaksFor ask.Verify conflicts i s r = OfInput (ReportRefusal (question.Verdict form.Lines conflicts) i) s r
BreaksFor ask.Proof conflicts i s r = OfInput (ReportRefusal (question.Verdict form.Proofs conflicts) i) s r
BreaksFor ask.Catalog conflicts i s r = OfInput (CatalogRefusal i) s r
BreaksFor ask.Graph conflicts i s r = OfInput (GraphRefusal i) s r
BreaksFor ask.Programs conflicts i s r = OfInput (ReportRefusal question.Programs i) s r
BreaksFor ask.Replay conflicts i s r = OfInput (ReportRefusal question.Replay i) s r
BreaksFor ask.Check conflicts i s r = OfInput (BreaksProofRule (input_of i)) s r
BreaksFor ask.Migrate conflicts i s r = OfInput (BreaksListingRule (input_of i)) s r
BreaksFor ask.Repair conflicts i s r = OfInput (ReportRefusal (question.Repair conflicts) i) s r
BreaksFor ask.Ensures conflicts i s r = OfInput (ReportRefusal (question.Ensures conflicts) i) s r
BreaksFor ask.Equal conflicts i s r = ComparisonRefusal i s r
BreaksFor ask.Explain conflicts i s r = OfInput (ReportRefusal (question.Explain conflicts) i) s r

-- the first rule that what was loaded breaks
abbrev pub Breaks : Loaded → Side → Refusal → Type 0
Breaks l s r = BreaksFor l.ask l.conflicts l.inputs s r

-- a report on the request
pub record ReportsOn (request : Request) (held : Held) (report : Report) : Type 0 where
  pub loaded : Loaded
  pub stands : IsLoaded held request loaded
  pub says : IsAnswer loaded report

-- the files of the request, of which none is missing or too long, break a rule
pub record BreaksAt (request : Request) (held : Held) (s : Side) (r : Refusal) : Type 0 where
  pub loaded : Loaded
  pub stands : IsLoaded held request loaded
  pub breaks : Breaks loaded s r

-- the first of the files of the request that is too long, beside an input of its kind
abbrev pub IsTooLongAt : Request → Held → Refusal → Type 0
IsTooLongAt request held r = FirstTooLong held (input_kind request.ask (files_of request)) (files_of request) r

-- the first refusal of the request: no file is missing but one is too long, or else they break a rule
abbrev pub RefusesAt : Request → Held → Side → Refusal → Type 0
RefusesAt request held s r = (NoneMissing held (files_of request) × OfInput (IsTooLongAt request held) s r) ⊎ BreaksAt request held s r

-- the same of the request that the words make
pub record Reports (words : List (String Global)) (held : Held) (report : Report) : Type 0 where
  pub request : Request
  pub made : Requests words request
  pub on : ReportsOn request held report

-- the first refusal of the request that the words make
pub record Refuses (words : List (String Global)) (held : Held) (s : Side) (r : Refusal) : Type 0 where
  pub request : Request
  pub made : Requests words request
  pub cause : RefusesAt request held s r

-- the first file that couldn't be read, of the request that the words make
pub record FailsToRead (words : List (String Global)) (held : Held) (before now : ℕ) (name : List ℕ) : Type 0 where
  pub request : Request
  pub made : Requests words request
  pub first : FirstFailed held before now (files_of request) name

-- the words make a request of which a file is missing
pub record LacksFile (words : List (String Global)) (held : Held) : Type 0 where
  pub request : Request
  pub made : Requests words request
  pub missing : AnyMissing held (files_of request)

-- the words make a request of which the shelf tells each file
pub record IsHeld (words : List (String Global)) (held : Held) : Type 0 where
  pub request : Request
  pub made : Requests words request
  pub told : AllTold held (files_of request)
