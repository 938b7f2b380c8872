-- The text of a formula, and what is printed about it.
use Rattle.std.specs.Prelude.{◌≡◌, ◌⊎◌, ℕ, ◌+◌, Bool, true, false, List, [], ◌∷◌, ◌++◌, length, codes, Option, Some, None}
use Rattle.cnf.specs.declared.log.Step.{Step}
use Rattle.cnf.specs.Formulas.{Formula, Satisfies, valuation_of}
use Rattle.cnf.specs.Proofs.{IsAccepted}
use Rattle.cnf.specs.ProofText.{lit_word, proof_text}
use Rattle.proof_check.specs.Refuted.{Refutation}
use Rattle.proof_check.specs.ProofWords.{IsProofText}

-- a text between the lines that are ahead of the only formula of a proof text and of an empty log behind it
abbrev pub framed : List ℕ → List ℕ
framed text = codes "proofs 1\n" ++ (text ++ codes "\nlog 0\n")

-- a formula without steps
abbrev pub alone : Formula → Refutation
alone f = record { formula = f; steps = [] }

-- the text spells a formula, by the rules of proof texts
abbrev pub IsDimacs : List ℕ → Formula → Type 0
IsDimacs text f = IsProofText (framed text) (alone f ∷ [])

-- the line of a variable with its value
abbrev pub value_line : ℕ → Bool → List ℕ
value_line var b = codes "v " ++ (lit_word (record { var = var; positive = b }) ++ codes "\n")

-- the lines of the variables from one on, and the last line
abbrev pub value_lines : ℕ → List Bool → List ℕ
value_lines var [] = codes "v 0\n"
value_lines var (b ∷ values) = value_line var b ++ value_lines (var + 1) values

-- what is printed of a model
abbrev pub model_text : List Bool → List ℕ
model_text values = codes "s SATISFIABLE\n" ++ value_lines 1 values

-- what is printed of a refutation: a proof text where one is asked for
abbrev pub refutation_text : Formula → List Step → Bool → List ℕ
refutation_text f steps true = codes "proofs 1\n" ++ proof_text f steps
refutation_text f steps false = codes "s UNSATISFIABLE\n"

-- a model of the formula is printed
pub record PrintsModel (f : Formula) (out : List ℕ) : Type 0 where
  pub values : List Bool
  pub long : length values ≡ f.vars
  pub satisfies : Satisfies (valuation_of values) f.clauses
  pub printed : out ≡ model_text values

-- a refutation of the formula is printed
pub record PrintsRefutation (f : Formula) (with_proof : Bool) (out : List ℕ) : Type 0 where
  pub steps : List Step
  pub accepted : IsAccepted f steps
  pub printed : out ≡ refutation_text f steps with_proof

-- a model is printed, or a refutation
abbrev pub IsAnswer : Formula → Bool → List ℕ → Type 0
IsAnswer f with_proof out = PrintsModel f out ⊎ PrintsRefutation f with_proof out

-- What is said of a text: an answer on the formula that it spells, or nothing, where it spells none.
abbrev pub Answers : List ℕ → Bool → Option (List ℕ) → Type 0
Answers text with_proof (Some out) = (f : Formula) × IsDimacs text f × IsAnswer f with_proof out
Answers text with_proof None = (f : Formula) → IsDimacs text f → ⊥

-- What is read of a text: the formula that it spells, or nothing, where it spells none.
abbrev pub Reads : List ℕ → Option Formula → Type 0
Reads text (Some f) = IsDimacs text f
Reads text None = (f : Formula) → IsDimacs text f → ⊥
