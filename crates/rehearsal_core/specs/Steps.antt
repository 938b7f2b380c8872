-- From the words to the status, step by step.
use Rattle.std.specs.Prelude.{◌≡◌, ◌⊎◌, ℕ, List, String, Result, Ok, Err}
use Rattle.std.specs.declared.alloc.Global.{Global}
use Rattle.rh_base.specs.Shelf.{Held}
use Rattle.command_line.specs.declared.request.Request.{Request}
use Rattle.command_line.specs.declared.request.Source.TheVariants as source
use Rattle.request_files.specs.Files.{FirstFailed}
use Rattle.reports.specs.declared.sides.Untold.{Untold}
use Rattle.reports.specs.declared.sides.Untold.TheVariants as untold
use Rattle.verdict_report.specs.declared.report.Report.{Report}
use Rattle.rehearsal_core.specs.declared.inputs.Names.{Names}
use Rattle.rehearsal_core.specs.declared.run.Ending.{Ending}
use Rattle.rehearsal_core.specs.declared.run.Ending.TheVariants as ending
use Rattle.rehearsal_core.specs.Runs.{Run, Put, Appends, AppendsFront, IsLeft, IsSound, HasFailed}
use Rattle.rehearsal_core.specs.Inputs.{RequestsNone, files_of, ReportsOn, RefusesAt, Reports, Refuses, FailsToRead}
use Rattle.rehearsal_core.specs.Answers.{Tells, Owed, write_fault_line, memory_line}

-- ---- reading

-- the request about the files of these names
abbrev pub request_about : Names → Request
request_about n = record { ask = n.ask; node = n.node; conflicts = n.conflicts; limits = n.limits; wanted = n.wanted; source = source.Files n.files }

-- what there is to say of an answer
abbrev pub concluded : Result Report Untold → Ending
concluded (Ok report) = ending.Report report
concluded (Err (untold.Refused s r)) = ending.Refused s r
concluded (Err (untold.Memory m)) = ending.Memory

-- What there is to say of a request, and what it takes. Only a failed read raises the shelf's count of faults.
abbrev pub SaysOf : Request → Held → ℕ → ℕ → Ending → Type 0
SaysOf request held before now (ending.Report report) = (now ≡ before) × ReportsOn request held report
SaysOf request held before now (ending.Refused s r) = (now ≡ before) × RefusesAt request held s r
SaysOf request held before now ending.BadWords = ⊥
SaysOf request held before now (ending.ReadFault name) = FirstFailed held before now (files_of request) name
SaysOf request held before now ending.Memory = now ≡ before

-- what there is to say, and what it takes
abbrev pub Says : List (String Global) → Held → ℕ → ℕ → Ending → Type 0
Says words held before now (ending.Report report) = (now ≡ before) × Reports words held report
Says words held before now (ending.Refused s r) = (now ≡ before) × Refuses words held s r
Says words held before now ending.BadWords = (now ≡ before) × RequestsNone words
Says words held before now (ending.ReadFault name) = FailsToRead words held before now name
Says words held before now ending.Memory = now ≡ before

-- ---- telling

-- the line was told and the status is the given one; or the put failed; or memory was refused
abbrev pub TellsLine : ℕ → List ℕ → Put → ℕ → Type 0
TellsLine status line err result =
    ((result ≡ status) × Appends line err × IsSound err)
    ⊎ (((result ≡ 7) × HasFailed err × AppendsFront line err)
    ⊎ ((result ≡ 8) × AppendsFront memory_line err))

-- the report was written; or the put failed; or memory was refused
abbrev pub TellsReport : Report → Put → Put → ℕ → Type 0
TellsReport report out err result =
    ((result ≡ report.status) × Appends report.text out × IsSound out × IsLeft err × IsSound err)
    ⊎ (((result ≡ 7) × HasFailed out × AppendsFront report.text out × AppendsFront write_fault_line err)
    ⊎ ((result ≡ 8) × IsLeft out × IsSound out × AppendsFront memory_line err))

-- ---- both

-- what the run told with this status, and which it could be
pub record Ended (run : Run) (status : ℕ) : Type 0 where
  pub tells : Tells run status
  pub owed : Owed run status
