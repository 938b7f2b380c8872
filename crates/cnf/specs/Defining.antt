-- The Tseitin transformation: the formula of a circuit is made gate by gate, each with a literal that has its value.
use Rattle.std.specs.Prelude.{◌≡◌, ℕ, ◌<◌, ◌≤◌, Bool, true, false, List, ◌++◌, [], ◌∷◌, length, slice_get, Some, unwrap_or, if◌then◌else◌}
use Rattle.bool_circuit.specs.declared.gate.Gate.{Gate}
use Rattle.bool_circuit.specs.declared.gate.Gate.TheVariants.{Input, Constant, Not, And, Mux}
use Rattle.bool_circuit.specs.Gates.{truth_at, gate_value, input_count, wire_value}
use Rattle.cnf.specs.declared.lit.Lit.{Lit}
use Rattle.cnf.specs.Literals.{opposite, same_lit, lit_true, HasVariable}
use Rattle.cnf.specs.Clauses.{clause_of}
use Rattle.cnf.specs.Formulas.{Formula, Satisfies}
use Rattle.cnf.specs.Encoding.{inputs_in}

-- The new formula says of a literal that it has this value, and nothing more of the old variables.
pub record Defines (old new : Formula) (x : Lit) (value : (ℕ → Bool) → Bool) : Type 0 where
  pub more : old.vars ≤ new.vars
  pub variable : HasVariable new.vars x
  pub keeps : (v : ℕ → Bool) → Satisfies v new.clauses → Satisfies v old.clauses
  pub sound : (v : ℕ → Bool) → Satisfies v new.clauses → lit_true v x ≡ value v
  pub extends : (v : ℕ → Bool) → Satisfies v old.clauses → (u : ℕ → Bool) × ((k : ℕ) → k ≤ old.vars → u k ≡ v k) × Satisfies u new.clauses

-- the positive literal of a variable
abbrev pub yes : ℕ → Lit
yes x = record { var = x; positive = true }

-- its negative literal
abbrev pub no : ℕ → Lit
no x = record { var = x; positive = false }

-- the clauses behind others
abbrev pub with_clauses : List (List Lit) → List (List Lit) → List (List Lit)
with_clauses cs [] = cs
with_clauses cs (c ∷ more) = with_clauses (cs ++ clause_of c ∷ []) more

-- the clauses that say that variable x is that value
abbrev pub constant_clauses : ℕ → Bool → List (List Lit)
constant_clauses x b = (record { var = x; positive = b } ∷ []) ∷ []

-- the clauses that say that variable x is a and b
abbrev pub and_clauses : ℕ → Lit → Lit → List (List Lit)
and_clauses x a b = (no x ∷ a ∷ []) ∷ (no x ∷ b ∷ []) ∷ (yes x ∷ opposite a ∷ opposite b ∷ []) ∷ []

-- variable x is a where c is true, and else b: four clauses, and where a and b aren't opposite two that say nothing new
abbrev pub mux_clauses : ℕ → Lit → Lit → Lit → List (List Lit)
mux_clauses x c a b =
    (no x ∷ opposite c ∷ a ∷ []) ∷ (no x ∷ c ∷ b ∷ []) ∷ (yes x ∷ opposite c ∷ opposite a ∷ []) ∷ (yes x ∷ c ∷ opposite b ∷ [])
    ∷ (if same_lit a (opposite b) then [] else (no x ∷ a ∷ b ∷ []) ∷ (yes x ∷ opposite a ∷ opposite b ∷ []) ∷ [])

-- the literal of a wire
abbrev pub lit_at : List Lit → ℕ → Lit
lit_at lits w = unwrap_or (slice_get lits w) (record { var = 0; positive = true })

-- the operands of a gate are among these wires
abbrev pub AreNeeded : List Bool → Gate → Type 0
AreNeeded needed (Input i) = Unit {0}
AreNeeded needed (Constant b) = Unit {0}
AreNeeded needed (Not a) = truth_at needed a.0 ≡ true
AreNeeded needed (And a b) = (truth_at needed a.0 ≡ true) × (truth_at needed b.0 ≡ true)
AreNeeded needed (Mux c a b) = (truth_at needed c.0 ≡ true) × (truth_at needed a.0 ≡ true) × (truth_at needed b.0 ≡ true)

-- the literals of a gate's operands have variables up to n
abbrev pub HaveVariables : ℕ → List Lit → Gate → Type 0
HaveVariables n lits (Input i) = Unit {0}
HaveVariables n lits (Constant b) = Unit {0}
HaveVariables n lits (Not a) = HasVariable n (lit_at lits a.0)
HaveVariables n lits (And a b) = HasVariable n (lit_at lits a.0) × HasVariable n (lit_at lits b.0)
HaveVariables n lits (Mux c a b) = HasVariable n (lit_at lits c.0) × HasVariable n (lit_at lits a.0) × HasVariable n (lit_at lits b.0)

-- what a gate says where its operands' literals have their values
abbrev pub lits_value : List Lit → Gate → (ℕ → Bool) → Bool
lits_value lits g v = gate_value (inputs_in v) (λ w. lit_true v (lit_at lits w)) g

-- the operands of the needed wires from k on are needed, as in a cone of influence
abbrev pub NeededFrom : List Gate → List Bool → ℕ → Type 0
NeededFrom gates needed k = (w : ℕ) (g : Gate) → k ≤ w → truth_at needed w ≡ true → slice_get gates w ≡ Some g → AreNeeded needed g

-- the needed wires among the first k have literals with their values
pub record Encodes (gates : List Gate) (needed : List Bool) (k : ℕ) (lits : List Lit) (f : Formula) : Type 0 where
  pub long : length lits ≡ k
  pub inputs : input_count gates ≤ f.vars
  pub variables : (w : ℕ) → w < k → truth_at needed w ≡ true → HasVariable f.vars (lit_at lits w)
  pub sound : (v : ℕ → Bool) → Satisfies v f.clauses → (w : ℕ) → w < k → truth_at needed w ≡ true
      → lit_true v (lit_at lits w) ≡ wire_value gates (inputs_in v) w
  pub extends : (inputs : ℕ → Bool) → (u : ℕ → Bool) × ((i : ℕ) → i < input_count gates → inputs_in u i ≡ inputs i) × Satisfies u f.clauses
      × ((w : ℕ) → w < k → truth_at needed w ≡ true → lit_true u (lit_at lits w) ≡ wire_value gates inputs w)
