-- The text on an entry that is wanted.
use Rattle.std.specs.Prelude.{ℕ, List, [], ◌++◌, length, codes}
use Rattle.std.specs.Fmt.{decimal}
use Rattle.fs_semantics.specs.FileTree.{Tree}
use Rattle.fs_semantics.specs.Programs.{Program}
use Rattle.order_encode.specs.declared.witness.Witness.{Witness}
use Rattle.order_encode.specs.declared.witness.Witness.TheVariants as witness
use Rattle.determinism.specs.declared.first.First.{First}
use Rattle.determinism.specs.declared.first.First.TheVariants as first
use Rattle.verdict.specs.declared.verdicts.Asked.TheVariants as asked
use Rattle.verdict_text.specs.Lines.{tree_line}
use Rattle.verdict_report.specs.Lines.{head_lines, run_lines, difference_of, spent_text, last_line}
use Rattle.ensured_entry.specs.declared.ensured.Late.{Late}
use Rattle.ensured_entry.specs.declared.ensured.Late.TheVariants as late
use Rattle.ensured_entry.specs.declared.ensured.Ensured.{Ensured}
use Rattle.ensured_entry.specs.declared.ensured.Ensured.TheVariants as ensured

-- each run that ends leaves the entry; of n resources, with notes, pruning leaves k aside
abbrev pub ensured_text : ℕ → List ℕ → ℕ → List ℕ → List ℕ
ensured_text n notes k last = head_lines n notes k ++ (codes "deterministic\nensured\n" ++ last)

-- from the tree a run in the order ends without it
abbrev pub missed_text : List (List ℕ) → List Program → List ℕ → ℕ → Tree → List ℕ → List ℕ
missed_text names es notes k t order = head_lines (length es) notes k ++ (codes "deterministic\nnot ensured\n" ++ (tree_line t ++ run_lines names es t order))

-- what is known when a question is asked
abbrev pub known_lines : Late → List ℕ
known_lines late.Ensures = codes "deterministic\n"
known_lines late.Succeeds = codes "deterministic\nensured\n"

-- a question by its name
abbrev pub question_name : Late → List ℕ
question_name late.Ensures = codes "ensures"
question_name late.Succeeds = codes "succeeds"

-- a question's conflicts are spent
abbrev pub spent_late_text : ℕ → List ℕ → ℕ → Late → ℕ → List ℕ
spent_late_text n notes k a budget = head_lines n notes k ++ (known_lines a ++ (codes "spent " ++ (question_name a ++ (codes " " ++ (decimal budget ++ codes "\n")))))

-- ---- of an answer

-- the status that goes with it
abbrev pub first_status : First → ℕ
first_status (first.Sure k s) = 0
first_status (first.Differs k w) = 1
first_status (first.Spent k cnf log) = 3

abbrev pub status_of : Ensured → ℕ
status_of (ensured.First f) = first_status f
status_of (ensured.Holds s v end) = 0
status_of (ensured.Fails s w) = 9
status_of (ensured.Spent s a cnf log) = 3

-- the lines where the graph isn't known to be deterministic
abbrev pub first_lines : List (List ℕ) → List Program → List ℕ → ℕ → First → List ℕ
first_lines names es notes budget (first.Sure k s) = []
first_lines names es notes budget (first.Differs k w) = difference_of names es notes k w
first_lines names es notes budget (first.Spent k cnf log) = spent_text (length es) notes k asked.Deterministic budget

-- the lines on a run that ends without the entry, if the witness is of one
abbrev pub missed_of : List (List ℕ) → List Program → List ℕ → ℕ → Witness → List ℕ
missed_of names es notes k (witness.Orders t left right) = []
missed_of names es notes k (witness.Twice t order) = []
missed_of names es notes k (witness.Ends t order) = missed_text names es notes k t order

-- its lines, where each question had so many conflicts
abbrev pub lines_of : List (List ℕ) → List Program → List ℕ → ℕ → Ensured → List ℕ
lines_of names es notes budget (ensured.First f) = first_lines names es notes budget f
lines_of names es notes budget (ensured.Holds s v end) = ensured_text (length es) notes s.pruned (last_line end)
lines_of names es notes budget (ensured.Fails s w) = missed_of names es notes s.pruned w
lines_of names es notes budget (ensured.Spent s a cnf log) = spent_late_text (length es) notes s.pruned a budget
