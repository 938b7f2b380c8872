-- What the formula of a circuit's goal says.
use Rattle.std.specs.Prelude.{◌≡◌, ℕ, ◌+◌, ◌<◌, ◌≤◌, Bool, true, List}
use Rattle.bool_circuit.specs.declared.gate.Gate.{Gate}
use Rattle.bool_circuit.specs.Gates.{input_count, wire_value}
use Rattle.cnf.specs.Formulas.{Formula, Satisfies}

-- the inputs in a valuation: input i, counted from 0, is variable i + 1
abbrev pub inputs_in : (ℕ → Bool) → ℕ → Bool
inputs_in v i = v (i + 1)

-- The models of the formula begin with inputs that make the goal true, and each such input has a model.
pub record StatesGoal (gates : List Gate) (goal : ℕ) (f : Formula) : Type 0 where
  pub variables : input_count gates ≤ f.vars
  pub models : (v : ℕ → Bool) → Satisfies v f.clauses → wire_value gates (inputs_in v) goal ≡ true
  pub inputs : (inputs : ℕ → Bool) → wire_value gates inputs goal ≡ true → (v : ℕ → Bool)
      × ((i : ℕ) → i < input_count gates → inputs_in v i ≡ inputs i) × Satisfies v f.clauses
