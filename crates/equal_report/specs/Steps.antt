-- What the lines need, and how an answer is told.
use Rattle.std.specs.Prelude.{◌≡◌, ℕ, List}
use Rattle.fs_semantics.specs.Programs.{Program}
use Rattle.orders.specs.Relation.{Relation}
use Rattle.order_encode.specs.Witnesses.{IsFirstExtension}
use Rattle.verdict_report.specs.declared.report.Report.{Report}
use Rattle.entry_report.specs.Steps.{IsTellableFirst}
use Rattle.equal_graphs.specs.declared.compared.Compared.{Compared}
use Rattle.equal_graphs.specs.declared.compared.Compared.TheVariants as compared
use Rattle.equal_report.specs.Lines.{status_of, lines_of}

-- the witness of the one graph or of the other, if there is one, speaks of n or of m programs
abbrev pub IsTellable : ℕ → ℕ → Compared → Type 0
IsTellable n m (compared.Left f) = IsTellableFirst n f
IsTellable n m (compared.Right l f) = IsTellableFirst m f
IsTellable n m (compared.Equal l r v) = Unit {0}
IsTellable n m (compared.Differ l r t) = Unit {0}
IsTellable n m (compared.Spent l r cnf log) = Unit {0}

-- the report has the status of the answer, and its lines, in which the first extensions are run where two runs are told
pub record IsReportOf (notes other_notes : List ℕ) (names : List (List ℕ)) (es : List Program) (order : Relation)
    (others : List (List ℕ)) (fs : List Program) (other : Relation) (budget : ℕ) (answered : Compared)
    (report : Report) : Type 0 where
  pub first : List ℕ
  pub is_first : IsFirstExtension order first
  pub second : List ℕ
  pub is_second : IsFirstExtension other second
  pub status : report.status ≡ status_of answered
  pub text : report.text ≡ lines_of notes other_notes names es first others fs second budget answered
