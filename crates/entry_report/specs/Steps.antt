-- What the lines need, and how an answer is told.
use Rattle.std.specs.Prelude.{◌≡◌, ℕ, ◌<◌, List}
use Rattle.std.specs.List.{AllByRecursion}
use Rattle.fs_semantics.specs.Programs.{Program}
use Rattle.order_encode.specs.declared.witness.Witness.{Witness}
use Rattle.order_encode.specs.declared.witness.Witness.TheVariants as witness
use Rattle.determinism.specs.declared.first.First.{First}
use Rattle.determinism.specs.declared.first.First.TheVariants as first
use Rattle.verdict_report.specs.declared.report.Report.{Report}
use Rattle.verdict_report.specs.Told.{HasOrders}
use Rattle.ensured_entry.specs.declared.ensured.Ensured.{Ensured}
use Rattle.ensured_entry.specs.declared.ensured.Ensured.TheVariants as ensured
use Rattle.entry_report.specs.Lines.{status_of, lines_of}

-- the witness is of one run, in an order of numbers below n
abbrev pub HasRun : ℕ → Witness → Type 0
HasRun n (witness.Orders t left right) = ⊥
HasRun n (witness.Twice t order) = ⊥
HasRun n (witness.Ends t order) = AllByRecursion (λ i. i < n) order

-- the graph isn't known to be deterministic, and the witness, if there is one, speaks of n programs
abbrev pub IsTellableFirst : ℕ → First → Type 0
IsTellableFirst n (first.Sure k s) = ⊥
IsTellableFirst n (first.Differs k w) = HasOrders n w
IsTellableFirst n (first.Spent k cnf log) = Unit {0}

-- the same of an answer
abbrev pub IsTellable : ℕ → Ensured → Type 0
IsTellable n (ensured.First f) = IsTellableFirst n f
IsTellable n (ensured.Holds s v end) = Unit {0}
IsTellable n (ensured.Fails s w) = HasRun n w
IsTellable n (ensured.Spent s a cnf log) = Unit {0}

-- the report has the status of the answer, and its lines
pub record IsReportOf (notes : List ℕ) (names : List (List ℕ)) (es : List Program) (budget : ℕ) (answered : Ensured)
    (report : Report) : Type 0 where
  pub status : report.status ≡ status_of answered
  pub text : report.text ≡ lines_of names es notes budget answered
