-- Wires that are inputs, and cells of such wires.
use Rattle.std.specs.Prelude.{◌≡◌, ℕ, suc, ◌+◌, ◌<◌, ◌≤◌, ◌⊎◌, false, List, [], ◌∷◌, length}
use Rattle.bool_circuit.specs.declared.gate.Wire.{Wire}
use Rattle.bool_circuit.specs.declared.gate.Gate.{Gate}
use Rattle.bool_circuit.specs.Gates.{wire_value}
use Rattle.fs_interpreter.specs.Meanings.{Valuation}
use Rattle.fs_interpreter.specs.declared.cells.Cells.{Cells}

-- each wire is an input, the first of them the input k
abbrev pub AreInputs : List Gate → ℕ → List Wire → Type 0
AreInputs gates k [] = Unit {0}
AreInputs gates k (w ∷ ws) = (w.0 < length gates) × ((v : Valuation) → wire_value gates v w.0 ≡ v k) × AreInputs gates (suc k) ws

-- rows of inputs, each of the same width
abbrev pub AreInputRows : List Gate → ℕ → ℕ → List (List Wire) → Type 0
AreInputRows gates width k [] = Unit {0}
AreInputRows gates width k (ws ∷ rows) = (length ws ≡ width) × AreInputs gates k ws × AreInputRows gates width (k + width) rows

-- Cells whose bits and codes are inputs from k on, without error.
pub record AreInputCells {B : Type 0} (gates : List Gate) (k n width : ℕ) (cells : Cells B Wire (List Wire)) : Type 0 where
  pub presents : length cells.present ≡ n
  pub folders : length cells.folder ≡ n
  pub links : length cells.link ≡ n
  pub contents : length cells.content ≡ n
  pub present : AreInputs gates k cells.present
  pub folder : AreInputs gates (k + n) cells.folder
  pub link : AreInputs gates (k + n + n) cells.link
  pub content : AreInputRows gates width (k + n + n + n) cells.content
  pub error : cells.error.0 < length gates
  pub no_error : (v : Valuation) → wire_value gates v cells.error.0 ≡ false

-- the two valuations differ at most in the inputs from k on that are below n
abbrev pub AgreeOutside : ℕ → ℕ → Valuation → Valuation → Type 0
AgreeOutside k n u v = (i : ℕ) → (i < k) ⊎ (n ≤ i) → v i ≡ u i

-- the two valuations agree on the first k inputs
abbrev pub AgreeBelow : ℕ → Valuation → Valuation → Type 0
AgreeBelow k u v = (i : ℕ) → i < k → v i ≡ u i
