-- The text of a formula and its log, as words in lines: DIMACS and, but for the pivots, TraceCheck.
use Rattle.std.specs.Prelude.{ℕ, List, [], ◌∷◌, ◌++◌, length, map, codes, decimal, if◌then◌else◌}
use Rattle.std.specs.List.{flat_map}
use Rattle.cnf.specs.declared.lit.Lit.{Lit}
use Rattle.cnf.specs.declared.log.Link.{Link}
use Rattle.cnf.specs.declared.log.Step.{Step}
use Rattle.cnf.specs.Formulas.{Formula}

-- a word, as bytes
abbrev pub Word : Type 0
Word = List ℕ

-- a literal: its variable, behind `-` where it is negative
abbrev pub lit_word : Lit → Word
lit_word l = if l.positive then decimal l.var else 45 ∷ decimal l.var

-- the literals of a clause and a 0
abbrev pub clause_words : List Lit → List Word
clause_words c = map lit_word c ++ codes "0" ∷ []

-- a link: the number of a clause and the pivot
abbrev pub link_words : Link → List Word
link_words link = decimal link.number ∷ lit_word link.pivot ∷ []

-- the number of the first clause, the links and a 0
abbrev pub chain_words : ℕ → List Link → List Word
chain_words start chain = decimal start ∷ (flat_map link_words chain ++ codes "0" ∷ [])

-- a step: its clause and its chain
abbrev pub step_words : Step → List Word
step_words step = clause_words step.clause ++ chain_words step.start step.chain

-- a line: words with one space between them, and a line feed
abbrev pub line_text : List Word → List ℕ
line_text [] = 10 ∷ []
line_text (w ∷ []) = w ++ 10 ∷ []
line_text (w ∷ v ∷ ws) = w ++ 32 ∷ line_text (v ∷ ws)

-- the lines of a formula, in DIMACS form
abbrev pub formula_lines : ℕ → List (List Lit) → List (List Word)
formula_lines vars clauses = (codes "p" ∷ codes "cnf" ∷ decimal vars ∷ decimal (length clauses) ∷ []) ∷ map clause_words clauses

-- the lines of a log
abbrev pub log_lines : List Step → List (List Word)
log_lines steps = (codes "log" ∷ decimal (length steps) ∷ []) ∷ map step_words steps

-- the text of both
abbrev pub proof_text : Formula → List Step → List ℕ
proof_text f steps = flat_map line_text (formula_lines f.vars f.clauses) ++ flat_map line_text (log_lines steps)
