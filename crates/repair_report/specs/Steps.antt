-- What the lines need, and how an answer is told.
use Rattle.std.specs.Prelude.{◌≡◌, ℕ, ◌<◌, List}
use Rattle.std.specs.List.{All}
use Rattle.verdict_report.specs.declared.report.Report.{Report}
use Rattle.repair.specs.declared.repaired.Repaired.{Repaired}
use Rattle.repair.specs.declared.repaired.Repaired.TheVariants as repaired
use Rattle.repair_report.specs.Lines.{repaired_text, unrepaired_text}

-- the arrow is between two of the first n resources
abbrev pub IsArrowWithin : ℕ → ℕ × ℕ → Type 0
IsArrowWithin n arrow = (arrow.0 < n) × (arrow.1 < n)

-- the arrows are between the first n resources
abbrev pub AreTellable : ℕ → Repaired → Type 0
AreTellable n (repaired.Done added) = All (IsArrowWithin n) added
AreTellable n (repaired.Spent added cnf log) = Unit {0}

-- the report has the status of the answer, and its lines
abbrev pub IsReportOf : List (List ℕ) → ℕ → List ℕ → ℕ → Repaired → Report → Type 0
IsReportOf names n notes budget (repaired.Done added) report = (report.status ≡ 0) × (report.text ≡ repaired_text names n notes added)
IsReportOf names n notes budget (repaired.Spent added cnf log) report = (report.status ≡ 3) × (report.text ≡ unrepaired_text n notes budget)
