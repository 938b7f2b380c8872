-- The statuses of the program, and what each one tells.
use Rattle.std.specs.Prelude.{◌≡◌, ◌≢◌, ◌⊎◌, ◌≤◌, ℕ, List, [], ◌++◌, codes}
use Rattle.std.specs.Fmt.{decimal}
use Rattle.rh_base.specs.declared.fault.Refusal.{Refusal}
use Rattle.rh_base.specs.Causes.{Rose}
use Rattle.printed_names.specs.Printed.{printed}
use Rattle.command_line.specs.Table.{usage_line}
use Rattle.reports.specs.declared.sides.Side.{Side}
use Rattle.reports.specs.declared.sides.Side.TheVariants as side
use Rattle.verdict_report.specs.declared.report.Report.{Report}
use Rattle.rehearsal_core.specs.Runs.{Run, Appends, AppendsFront, IsLeft, IsSound, HasFailed}
use Rattle.rehearsal_core.specs.Inputs.{RequestsNone, IsHeld, LacksFile, Reports, Refuses, FailsToRead}

-- ---- lines

-- how a refusal of the other manifest, or the other compiled catalog, is told apart
abbrev pub in_other : Side → List ℕ
in_other side.Input = []
in_other side.Other = codes " in other"

-- a refusal: its number, its place in the text, whether it is that of the other one, and its name, without control characters
abbrev pub refusal_line : Side → Refusal → List ℕ
refusal_line s r = codes "refused " ++ (decimal r.number ++ (codes " at " ++ (decimal r.at ++ (in_other s ++ (codes ": " ++ (printed r.name ++ codes "\n"))))))

-- a file couldn't be read
abbrev pub read_fault_line : List ℕ → List ℕ
read_fault_line name = codes "read fault: " ++ (printed name ++ codes "\n")

-- a write failed
abbrev pub write_fault_line : List ℕ
write_fault_line = codes "write fault\n"

-- memory was refused
abbrev pub memory_line : List ℕ
memory_line = codes "out of memory\n"

-- ---- the statuses

-- the statuses of reports
abbrev pub IsOfReport : ℕ → Type 0
IsOfReport status = (status ≤ 3) ⊎ ((status ≡ 9) ⊎ (status ≡ 10))

-- status 0 to 3, 9 or 10: the report with this status was written to out, and nothing to err
abbrev pub WritesReport : Run → ℕ → Type 0
WritesReport run status = (report : Report) × Reports run.words run.held report × (report.status ≡ status)
    × Appends report.text run.out × IsLeft run.err

-- status 4: the first refusal was told on err, and nothing on out
abbrev pub TellsRefusal : Run → Type 0
TellsRefusal run = (s : Side) × (r : Refusal) × Refuses run.words run.held s r × Appends (refusal_line s r) run.err × IsLeft run.out

-- status 5: the words are refused
abbrev pub TellsUsage : Run → Type 0
TellsUsage run = RequestsNone run.words × Appends usage_line run.err × IsLeft run.out

-- status 6: the first file that couldn't be read, of those that the words name, was told on err
abbrev pub TellsReadFault : Run → Type 0
TellsReadFault run = (name : List ℕ) × FailsToRead run.words run.held run.shelf_before run.shelf_now name
    × Appends (read_fault_line name) run.err × IsLeft run.out

-- the line that a cause of status 4, 5 or 6 puts on err
abbrev pub HasCause : Run → ℕ → List ℕ → Type 0
HasCause run status line =
    ((status ≡ 4) × (s : Side) × (r : Refusal) × Refuses run.words run.held s r × (line ≡ refusal_line s r))
    ⊎ (((status ≡ 5) × RequestsNone run.words × (line ≡ usage_line))
    ⊎ ((status ≡ 6) × (name : List ℕ) × FailsToRead run.words run.held run.shelf_before run.shelf_now name × (line ≡ read_fault_line name)))

-- Status 7: a put on out failed, and a front of a report stands there; or a put on err failed, where a cause of 4, 5 or 6
-- was to be told, and nothing was put on out.
abbrev pub FailsToWrite : Run → Type 0
FailsToWrite run =
    (HasFailed run.out × (report : Report) × Reports run.words run.held report × AppendsFront report.text run.out
    × AppendsFront write_fault_line run.err)
    ⊎ (HasFailed run.err × (status : ℕ) × (line : List ℕ) × HasCause run status line × AppendsFront line run.err × IsLeft run.out)

-- status 8: memory was refused, and nothing was put on out
abbrev pub LacksMemory : Run → Type 0
LacksMemory run = AppendsFront memory_line run.err × IsLeft run.out

-- no count of faults rose
pub record NoFaults (run : Run) : Type 0 where
  pub shelf : Rose run.shelf_before run.shelf_now → ⊥
  pub out : HasFailed run.out → ⊥
  pub err : HasFailed run.err → ⊥

-- What each status tells.
pub record Tells (run : Run) (status : ℕ) : Type 0 where
  pub report : IsOfReport status → WritesReport run status
  pub refused : status ≡ 4 → TellsRefusal run
  pub words : status ≡ 5 → TellsUsage run
  pub read : status ≡ 6 → TellsReadFault run
  pub write : status ≡ 7 → FailsToWrite run
  pub memory : status ≡ 8 → LacksMemory run
  pub known : IsOfReport status ⊎ ((status ≡ 4) ⊎ ((status ≡ 5) ⊎ ((status ≡ 6) ⊎ ((status ≡ 7) ⊎ (status ≡ 8)))))

-- Which statuses there are, by what was given and what failed, but for what follows from what is told.
pub record Owed (run : Run) (status : ℕ) : Type 0 where
  -- words that are refused have no other answer
  pub usage : RequestsNone run.words → (status ≡ 5) ⊎ ((status ≡ 7) ⊎ (status ≡ 8))
  -- an input that is told, without faults, gets a report or a refusal
  pub decided : IsHeld run.words run.held → NoFaults run → IsOfReport status ⊎ ((status ≡ 4) ⊎ (status ≡ 8))
  -- a read that failed is told, unless a write fails too or memory is refused; a write to out that failed is told always
  pub unread : run.shelf_now ≢ run.shelf_before → (status ≡ 6) ⊎ ((status ≡ 7) ⊎ (status ≡ 8))
  pub unwritten : (IsSound run.out → ⊥) → status ≡ 7
  -- a write to err that failed leaves nothing else to be told
  pub untold : (IsSound run.err → ⊥) → (status ≡ 7) ⊎ (status ≡ 8)

-- Which statuses there are.
pub record Owes (run : Run) (status : ℕ) : Type 0 where
  pub owed : Owed run status
  -- where a refusal is due there is no report
  pub refused : IsHeld run.words run.held → (s : Side) → (r : Refusal) → Refuses run.words run.held s r → IsOfReport status → ⊥
  -- where a file is missing, nothing is said of the others
  pub missing : LacksFile run.words run.held → (status ≡ 6) ⊎ ((status ≡ 7) ⊎ (status ≡ 8))
