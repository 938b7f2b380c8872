-- The text on two graphs that are compared.
use Rattle.std.specs.Prelude.{ℕ, List, ◌++◌, length, codes}
use Rattle.std.specs.Fmt.{decimal}
use Rattle.fs_semantics.specs.FileTree.{Tree}
use Rattle.fs_semantics.specs.Programs.{Program}
use Rattle.verdict_text.specs.Lines.{tree_line}
use Rattle.verdict_report.specs.Lines.{head_lines, run_lines}
use Rattle.entry_report.specs.Lines.{first_status, first_lines}
use Rattle.equal_graphs.specs.declared.compared.Compared.{Compared}
use Rattle.equal_graphs.specs.declared.compared.Compared.TheVariants as compared

-- of n resources, with notes, pruning leaves k aside, and they are deterministic
abbrev pub settled_lines : ℕ → List ℕ → ℕ → List ℕ
settled_lines n notes k = head_lines n notes k ++ codes "deterministic\n"

-- the same of both graphs, each with notes of its own
abbrev pub both_lines : List ℕ → List ℕ → ℕ → ℕ → ℕ → ℕ → List ℕ
both_lines notes other_notes n k m j = settled_lines n notes k ++ settled_lines m other_notes j

-- they do the same
abbrev pub equal_text : List ℕ → List ℕ → ℕ → ℕ → ℕ → ℕ → List ℕ
equal_text notes other_notes n k m j = both_lines notes other_notes n k m j ++ codes "equal\n"

-- they don't: from the tree an order of the one and an order of the other end differently
abbrev pub unequal_text : List ℕ → List ℕ → List (List ℕ) → List Program → ℕ → List ℕ → List (List ℕ) → List Program → ℕ
    → List ℕ → Tree → List ℕ
unequal_text notes other_notes names es k o others fs j p t =
    both_lines notes other_notes (length es) k (length fs) j ++ (codes "not equal\n" ++ (tree_line t ++ (run_lines names es t o ++ run_lines others fs t p)))

-- so many conflicts are spent
abbrev pub spent_line : ℕ → List ℕ
spent_line budget = codes "spent equal " ++ (decimal budget ++ codes "\n")

-- the conflicts of the question are spent
abbrev pub spent_equal_text : List ℕ → List ℕ → ℕ → ℕ → ℕ → ℕ → ℕ → List ℕ
spent_equal_text notes other_notes n k m j budget = both_lines notes other_notes n k m j ++ spent_line budget

-- ---- of an answer

-- the status that goes with it
abbrev pub status_of : Compared → ℕ
status_of (compared.Left f) = first_status f
status_of (compared.Right l f) = first_status f
status_of (compared.Equal l r v) = 0
status_of (compared.Differ l r t) = 10
status_of (compared.Spent l r cnf log) = 3

-- its lines, where each question had so many conflicts; o and p are the first extensions
abbrev pub lines_of : List ℕ → List ℕ → List (List ℕ) → List Program → List ℕ → List (List ℕ) → List Program → List ℕ
    → ℕ → Compared → List ℕ
lines_of notes other_notes names es o others fs p budget (compared.Left f) = first_lines names es notes budget f
lines_of notes other_notes names es o others fs p budget (compared.Right l f) = settled_lines (length es) notes l.pruned
    ++ first_lines others fs other_notes budget f
lines_of notes other_notes names es o others fs p budget (compared.Equal l r v) = equal_text notes other_notes
    (length es) l.pruned (length fs) r.pruned
lines_of notes other_notes names es o others fs p budget
    (compared.Differ l r t) = unequal_text notes other_notes names es l.pruned o others fs r.pruned p t
lines_of notes other_notes names es o others fs p budget
    (compared.Spent l r cnf log) = spent_equal_text notes other_notes (length es) l.pruned (length fs) r.pruned budget
