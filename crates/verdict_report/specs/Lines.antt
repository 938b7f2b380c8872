-- The text of a verdict: its lines, or its proofs.
use Rattle.std.specs.Prelude.{ℕ, List, [], ◌∷◌, ◌++◌, length, codes}
use Rattle.std.specs.List.{flat_map}
use Rattle.std.specs.Fmt.{decimal}
use Rattle.fs_semantics.specs.FileTree.{Tree}
use Rattle.fs_semantics.specs.Programs.{Program, Outcome, and_then}
use Rattle.fs_semantics.specs.Orders.{outcome}
use Rattle.cnf.specs.ProofText.{proof_text}
use Rattle.proof_check.specs.Refuted.{Refutation}
use Rattle.order_encode.specs.declared.witness.Witness.{Witness}
use Rattle.order_encode.specs.declared.witness.Witness.TheVariants as witness
use Rattle.verdict.specs.declared.verdicts.Asked.{Asked}
use Rattle.verdict.specs.declared.verdicts.Asked.TheVariants as asked
use Rattle.verdict.specs.declared.verdicts.Second.{Second}
use Rattle.verdict.specs.declared.verdicts.Second.TheVariants as second
use Rattle.verdict.specs.declared.verdicts.Ends.{Ends}
use Rattle.verdict.specs.declared.verdicts.Ends.TheVariants as ends
use Rattle.verdict.specs.declared.verdicts.Verdict.{Verdict}
use Rattle.verdict.specs.declared.verdicts.Verdict.TheVariants as verdict
use Rattle.verdict.specs.Verdicts.{proofs_in}
use Rattle.verdict_text.specs.Lines.{tree_line, order_line, outcome_line}
use Rattle.verdict_report.specs.declared.report.Report.{Report}

-- what was asked for is printed
abbrev pub printed : List ℕ → Report
printed text = record { status = 0; text = text }

-- ---- lines

-- n resources, and the notes that stand behind their number
abbrev pub count_lines : ℕ → List ℕ → List ℕ
count_lines n notes = codes "resources " ++ (decimal n ++ (codes "\n" ++ notes))

-- n resources, with notes, of which pruning leaves k aside
abbrev pub head_lines : ℕ → List ℕ → ℕ → List ℕ
head_lines n notes k = count_lines n notes ++ (codes "pruned " ++ (decimal k ++ codes "\n"))

-- some tree has a run without error
abbrev pub succeeds_line : List ℕ
succeeds_line = codes "succeeds from some tree\n"

-- no tree has one
abbrev pub fails_line : List ℕ
fails_line = codes "fails from every tree\n"

-- all is well: from every tree all orders end alike, and a second run changes nothing
abbrev pub sure_text : ℕ → List ℕ → ℕ → List ℕ → List ℕ
sure_text n notes k last = head_lines n notes k ++ (codes "deterministic\nidempotent\n" ++ last)

-- an order of the resources, which have these names, and the outcome of their programs in it
abbrev pub run_lines : List (List ℕ) → List Program → Tree → List ℕ → List ℕ
run_lines names es t order = order_line names order ++ outcome_line (outcome es order t)

-- a tree, and two orders with their outcomes from it
abbrev pub runs_lines : List (List ℕ) → List Program → Tree → List ℕ → List ℕ → List ℕ
runs_lines names es t left right = tree_line t ++ (run_lines names es t left ++ run_lines names es t right)

-- two orders end differently from a tree
abbrev pub difference_text : List (List ℕ) → List Program → List ℕ → ℕ → Tree → List ℕ → List ℕ → List ℕ
difference_text names es notes k t left right = head_lines (length es) notes k ++ (codes "not deterministic\n" ++ runs_lines names es t left right)

-- the outcome of a second run, from where the first one ended
abbrev pub outcome_again : List Program → List ℕ → Tree → Outcome
outcome_again es order t = and_then (outcome es order t) (outcome es order)

-- the outcomes of the first and of the second run
abbrev pub outcome_lines : List Program → List ℕ → Tree → List ℕ
outcome_lines es order t = outcome_line (outcome es order t) ++ outcome_line (outcome_again es order t)

-- a tree, an order, and the outcomes of two runs in it, one after the other
abbrev pub again_lines : List (List ℕ) → List Program → Tree → List ℕ → List ℕ
again_lines names es t order = tree_line t ++ (order_line names order ++ outcome_lines es order t)

-- a second run changes what the first one left
abbrev pub change_text : List (List ℕ) → List Program → List ℕ → ℕ → Tree → List ℕ → List ℕ
change_text names es notes k t order = head_lines (length es) notes k ++ (codes "deterministic\nnot idempotent\n" ++ (again_lines names es t order ++ succeeds_line))

-- what is known when a question is asked
abbrev pub known_lines : Asked → List ℕ
known_lines asked.Deterministic = []
known_lines asked.Idempotent = codes "deterministic\n"
known_lines asked.Succeeds = codes "deterministic\nidempotent\n"

-- a question by its name
abbrev pub question_name : Asked → List ℕ
question_name asked.Deterministic = codes "deterministic"
question_name asked.Idempotent = codes "idempotent"
question_name asked.Succeeds = codes "succeeds"

-- so many conflicts were spent on the question
abbrev pub spent_line : Asked → ℕ → List ℕ
spent_line a budget = codes "spent " ++ (question_name a ++ (codes " " ++ (decimal budget ++ codes "\n")))

-- a question's conflicts are spent
abbrev pub spent_text : ℕ → List ℕ → ℕ → Asked → ℕ → List ℕ
spent_text n notes k a budget = head_lines n notes k ++ (known_lines a ++ spent_line a budget)

-- the text of proofs: how many there are, and each
abbrev pub proofs_text : List Refutation → List ℕ
proofs_text proofs = codes "proofs " ++ (decimal (length proofs) ++ (codes "\n" ++ flat_map (λ p. proof_text p.formula p.steps) proofs))

-- ---- of a verdict

-- the status that goes with it
abbrev pub status_of : Verdict → ℕ
status_of (verdict.NotDeterministic k w) = 1
status_of (verdict.Judged k s (second.Same v) e) = 0
status_of (verdict.Judged k s (second.Differs w) e) = 2
status_of (verdict.Spent k a cnf log proofs) = 3

-- whether some tree has a run without error
abbrev pub last_line : Ends → List ℕ
last_line (ends.From w) = succeeds_line
last_line (ends.Never v) = fails_line

-- the lines on two orders, if the witness has them
abbrev pub difference_of : List (List ℕ) → List Program → List ℕ → ℕ → Witness → List ℕ
difference_of names es notes k (witness.Orders t left right) = difference_text names es notes k t left right
difference_of names es notes k (witness.Twice t order) = []
difference_of names es notes k (witness.Ends t order) = []

-- the lines on a second run, if the witness is of one
abbrev pub change_of : List (List ℕ) → List Program → List ℕ → ℕ → Witness → List ℕ
change_of names es notes k (witness.Orders t left right) = []
change_of names es notes k (witness.Twice t order) = change_text names es notes k t order
change_of names es notes k (witness.Ends t order) = []

-- the lines on deterministic programs
abbrev pub answer_of : List (List ℕ) → List Program → List ℕ → ℕ → Second → Ends → List ℕ
answer_of names es notes k (second.Same v) e = sure_text (length es) notes k (last_line e)
answer_of names es notes k (second.Differs w) e = change_of names es notes k w

-- its lines, where each question had so many conflicts
abbrev pub lines_of : List (List ℕ) → List Program → List ℕ → ℕ → Verdict → List ℕ
lines_of names es notes budget (verdict.NotDeterministic k w) = difference_of names es notes k w
lines_of names es notes budget (verdict.Judged k s again e) = answer_of names es notes k again e
lines_of names es notes budget (verdict.Spent k a cnf log proofs) = spent_text (length es) notes k a budget

-- what was refuted to answer the last question
abbrev pub end_proofs : Ends → List Refutation
end_proofs (ends.From w) = []
end_proofs (ends.Never v) = v ∷ []

-- what was refuted to answer the questions after the first
abbrev pub later_proofs : Second → Ends → List Refutation
later_proofs (second.Same v) e = v ∷ end_proofs e
later_proofs (second.Differs w) e = []

-- what was refuted, in the order asked
abbrev pub proofs_of : Verdict → List Refutation
proofs_of (verdict.NotDeterministic k w) = []
proofs_of (verdict.Judged k s again e) = proofs_in s ++ later_proofs again e
proofs_of (verdict.Spent k a cnf log proofs) = proofs
