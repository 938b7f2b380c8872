-- How the words of a proof text are read: what stands at the front, and the words behind it.
use Rattle.std.specs.Prelude.{◌==◌, ◌&&◌, nat_le, Bool, ℕ, zero, suc, ◌^◌, if◌then◌else◌, List, [], ◌∷◌, codes, Option, Some, None, Result, true, false}
use Rattle.std.specs.Option.{option_map}
use Rattle.std.specs.Str.{bytes_eq}
use Rattle.cnf.specs.declared.lit.Lit.{Lit}
use Rattle.cnf.specs.declared.log.Link.{Link}
use Rattle.cnf.specs.declared.log.Step.{Step}
use Rattle.cnf.specs.Clauses.{clause_of}
use Rattle.cnf.specs.Formulas.{Formula}
use Rattle.cnf.specs.ProofText.{Word}
use Rattle.proof_check.specs.Refuted.{Refutation}
use Rattle.proof_check.specs.Reading.{number_in}
use Rattle.rh_base.specs.declared.misread.Misread.{Misread}
use Rattle.rh_base.specs.Reading.{◌>>=◌, Gives}
pub use Rattle.rh_base.specs.Reading.{with_first, with_front}

-- what stands at the front of words, if it does, and the words behind it
abbrev pub Found : Type 0 → Type 0
Found X = Option (X × List Word)

-- the same, where these words are left
abbrev pub Takes : {X Y : Type 0} → (X → Y) → Result X Misread → List Word → Found Y → Type 0
Takes view r left read = Gives (λ x. (view x, left)) r read

-- ---- single words

-- this very word
abbrev pub word_is : Word → List Word → Found (Unit {0})
word_is w [] = None
word_is w (v ∷ ws) = if bytes_eq v w then Some (tt, ws) else None

-- what was found, with these words behind it
abbrev pub with_words : {X : Type 0} → List Word → Option X → Found X
with_words ws o = option_map (λ x. (x, ws)) o

-- a number
abbrev pub count_in : List Word → Found ℕ
count_in [] = None
count_in (w ∷ ws) = with_words ws (number_in w)

-- a literal of these variables
abbrev pub within : ℕ → Bool → ℕ → Option Lit
within vars positive n = if nat_le 1 n && nat_le n vars then Some record { var = n; positive = positive } else None

-- a literal, or nothing for the number 0
abbrev pub plain : ℕ → ℕ → Option (Option Lit)
plain vars n = if n == 0 then Some None else option_map Some (within vars true n)

-- a literal without a sign, or nothing for the number 0
abbrev pub unsigned_in : ℕ → Word → Option (Option Lit)
unsigned_in vars w = number_in w >>= plain vars

-- behind a `-`
abbrev pub negative_in : ℕ → Word → Option (Option Lit)
negative_in vars w = number_in w >>= λ n. option_map Some (within vars false n)

-- a literal with its sign, or nothing for the number 0
abbrev pub signed : ℕ → Word → Option (Option Lit)
signed vars [] = None
signed vars (b ∷ w) = if b == 45 then negative_in vars w else unsigned_in vars (b ∷ w)

-- the next word as a literal, or nothing for the number 0
abbrev pub literal_in : ℕ → List Word → Found (Option Lit)
literal_in vars [] = None
literal_in vars (w ∷ ws) = with_words ws (signed vars w)

-- a literal that isn't the word 0
abbrev pub pivot_of : Option Lit × List Word → Found Lit
pivot_of (None, ws) = None
pivot_of (Some l, ws) = Some (l, ws)

-- the next word as a literal that isn't 0
abbrev pub pivot_in : ℕ → List Word → Found Lit
pivot_in vars ws = literal_in vars ws >>= pivot_of

-- ---- lists up to the word 0

-- a literal and more of them, or the end
abbrev pub lits_or : Option (Option Lit) → Found (List Lit) → List Word → Found (List Lit)
lits_or None more ws = None
lits_or (Some None) more ws = Some ([], ws)
lits_or (Some (Some l)) more ws = with_first l more

-- literals up to the word 0
abbrev pub lits_in : ℕ → List Word → Found (List Lit)
lits_in vars [] = None
lits_in vars (w ∷ ws) = lits_or (signed vars w) (lits_in vars ws) ws

-- a link and more of them, if it has a pivot
abbrev pub with_link : ℕ → Option (Option Lit) → Found (List Link) → Found (List Link)
with_link n None more = None
with_link n (Some None) more = None
with_link n (Some (Some l)) more = with_first (record { number = n; pivot = l }) more

abbrev mutual
  -- links up to the word 0
  pub links_in : ℕ → List Word → Found (List Link)
  links_in vars [] = None
  links_in vars (w ∷ ws) = links_behind vars (number_in w) ws

  -- behind a number
  pub links_behind : ℕ → Option ℕ → List Word → Found (List Link)
  links_behind vars None ws = None
  links_behind vars (Some n) [] = if n == 0 then Some ([], []) else None
  links_behind vars (Some n) (v ∷ ws) = if n == 0 then Some ([], v ∷ ws) else with_link n (signed vars v) (links_in vars ws)

-- ---- formulas and logs

-- so many clauses
abbrev pub clauses_in : ℕ → ℕ → List Word → Found (List (List Lit))
clauses_in vars zero ws = Some ([], ws)
clauses_in vars (suc n) ws = lits_in vars ws >>= λ x. with_first (clause_of x.0) (clauses_in vars n x.1)

-- the formula of so many clauses
abbrev pub formula_of : ℕ → ℕ → List Word → Found Formula
formula_of vars many ws = clauses_in vars many ws >>= λ x. Some (record { vars = vars; clauses = x.0 }, x.1)

-- a formula
unfoldable pub formula_in : List Word → Found Formula
formula_in ws = do
  p ← word_is (codes "p") ws
  c ← word_is (codes "cnf") p.1
  vars ← count_in c.1
  many ← count_in vars.1
  if nat_le vars.0 (2 ^ 31) then formula_of vars.0 many.0 many.1 else None

-- a step
unfoldable pub step_in : ℕ → List Word → Found Step
step_in vars ws = do
  lits ← lits_in vars ws
  start ← count_in lits.1
  chain ← links_in vars start.1
  Some (record { clause = clause_of lits.0; start = start.0; chain = chain.0 }, chain.1)

-- so many steps
abbrev pub steps_in : ℕ → ℕ → List Word → Found (List Step)
steps_in vars zero ws = Some ([], ws)
steps_in vars (suc n) ws = step_in vars ws >>= λ x. with_first x.0 (steps_in vars n x.1)

-- a log
unfoldable pub log_in : ℕ → List Word → Found (List Step)
log_in vars ws = do
  l ← word_is (codes "log") ws
  many ← count_in l.1
  steps_in vars many.0 many.1

-- a formula and its log
unfoldable pub block_in : List Word → Found Refutation
block_in ws = do
  f ← formula_in ws
  l ← log_in f.0.vars f.1
  Some (record { formula = f.0; steps = l.0 }, l.1)

-- so many formulas with their logs
abbrev pub blocks_in : ℕ → List Word → Found (List Refutation)
blocks_in zero ws = Some ([], ws)
blocks_in (suc n) ws = block_in ws >>= λ x. with_first x.0 (blocks_in n x.1)

-- no word is left
abbrev pub ended : {X : Type 0} → X × List Word → Option X
ended (x, []) = Some x
ended (x, w ∷ ws) = None

-- all words of a text
unfoldable pub proofs_in : List Word → Option (List Refutation)
proofs_in ws = do
  p ← word_is (codes "proofs") ws
  many ← count_in p.1
  found ← blocks_in many.0 many.1
  ended found
