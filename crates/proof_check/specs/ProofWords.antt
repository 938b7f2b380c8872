-- The words of a proof text, and what formulas and logs they spell.
use Rattle.std.specs.Prelude.{◌≡◌, ◌||◌, ◌==◌, ℕ, ◌<◌, ◌≤◌, ◌^◌, Bool, if◌then◌else◌, List, [], ◌∷◌, ◌++◌, length, map, codes, decimal}
use Rattle.std.specs.List.{flat_map, AllByRecursion}
use Rattle.cnf.specs.declared.lit.Lit.{Lit}
use Rattle.cnf.specs.declared.log.Link.{Link}
use Rattle.cnf.specs.declared.log.Step.{Step}
use Rattle.cnf.specs.Literals.{HasVariable}
use Rattle.cnf.specs.Clauses.{HasVariables, clause_of}
use Rattle.cnf.specs.ProofText.{Word, clause_words, step_words}
use Rattle.proof_check.specs.Refuted.{Refutation}

-- blanks within a line: space, tab and CR
abbrev pub is_blank : ℕ → Bool
is_blank b = (b == 32) || (b == 9) || (b == 13)

-- the words of a line, behind the bytes of a word that has begun
abbrev pub words_behind : List ℕ → List ℕ → List Word
words_behind [] [] = []
words_behind (w ∷ word) [] = (w ∷ word) ∷ []
words_behind [] (b ∷ line) = if is_blank b then words_behind [] line else words_behind (b ∷ []) line
words_behind (w ∷ word) (b ∷ line) = if is_blank b then (w ∷ word) ∷ words_behind [] line else words_behind (w ∷ (word ++ b ∷ [])) line

-- a line whose first word is `c` doesn't count
abbrev pub counted : List Word → List Word
counted [] = []
counted ([] ∷ words) = [] ∷ words
counted ((b ∷ []) ∷ words) = if b == 99 then [] else (b ∷ []) ∷ words
counted ((b ∷ d ∷ word) ∷ words) = (b ∷ d ∷ word) ∷ words

-- the lines of a text, behind the bytes of a line that has begun
abbrev pub lines_behind : List ℕ → List ℕ → List (List ℕ)
lines_behind line [] = line ∷ []
lines_behind line (b ∷ text) = if b == 10 then line ∷ lines_behind [] text else lines_behind (line ++ b ∷ []) text

-- the words of a text that count
abbrev pub words_of : List ℕ → List Word
words_of text = flat_map (λ line. counted (words_behind [] line)) (lines_behind [] text)

-- a formula and a log as they are written: literals in any order and also repeated
pub record Written : Type 0 where
  pub vars : ℕ
  pub clauses : List (List Lit)
  pub steps : List Step

-- the words of a formula and its log
abbrev pub block_words : Written → List Word
block_words b =
    codes "p" ∷ codes "cnf" ∷ decimal b.vars ∷ decimal (length b.clauses) ∷
    (flat_map clause_words b.clauses ++ codes "log" ∷ decimal (length b.steps) ∷ flat_map step_words b.steps)

-- a link whose number fits i64, and whose pivot has one of the formula's variables
pub record IsLinkWritten (vars : ℕ) (link : Link) : Type 0 where
  pub low : 1 ≤ link.number
  pub fits : link.number < 2 ^ 63
  pub pivot : HasVariable vars link.pivot

-- a step whose numbers fit i64, and whose literals and pivots have the formula's variables
pub record IsStepWritten (vars : ℕ) (step : Step) : Type 0 where
  pub variables : HasVariables vars step.clause
  pub fits : step.start < 2 ^ 63
  pub links : AllByRecursion (IsLinkWritten vars) step.chain

-- a formula and a log whose numbers fit i64, and whose literals and pivots have the formula's variables
pub record IsWritten (b : Written) : Type 0 where
  pub small : b.vars ≤ 2 ^ 31
  pub clause_count : length b.clauses < 2 ^ 63
  pub step_count : length b.steps < 2 ^ 63
  pub clauses : AllByRecursion (HasVariables b.vars) b.clauses
  pub steps : AllByRecursion (IsStepWritten b.vars) b.steps

-- what is read of it
abbrev pub read_of : Written → Refutation
read_of b = record {
  formula = record { vars = b.vars; clauses = map clause_of b.clauses };
  steps = map (λ s. record { clause = clause_of s.clause; start = s.start; chain = s.chain }) b.steps;
}

-- the text spells these formulas and logs
pub record IsProofText (text : List ℕ) (proofs : List Refutation) : Type 0 where
  pub blocks : List Written
  pub words : words_of text ≡ codes "proofs" ∷ decimal (length blocks) ∷ flat_map block_words blocks
  pub count : length blocks < 2 ^ 63
  pub valid : AllByRecursion IsWritten blocks
  pub read : proofs ≡ map read_of blocks
