-- The text of an explanation.
use Rattle.std.specs.Prelude.{ℕ, List, ◌++◌, codes}
use Rattle.verdict.specs.declared.verdicts.Asked.{Asked}
use Rattle.verdict_report.specs.Lines.{known_lines, spent_line}

-- all is well: from every tree all orders end alike, and a second run changes nothing
abbrev pub sure_text : List ℕ → List ℕ → List ℕ
sure_text head last = head ++ (codes "deterministic\nidempotent\n" ++ last)

-- two orders end differently from a tree
abbrev pub apart_text : List ℕ → List ℕ → List ℕ
apart_text head lines = head ++ (codes "not deterministic\n" ++ lines)

-- a second run changes what the first one left
abbrev pub again_text : List ℕ → List ℕ → List ℕ
again_text head lines = head ++ (codes "deterministic\nnot idempotent\n" ++ (lines ++ codes "succeeds from some tree\n"))

-- a question's conflicts are spent
abbrev pub spent_text : List ℕ → Asked → ℕ → List ℕ
spent_text head a budget = head ++ (known_lines a ++ spent_line a budget)
