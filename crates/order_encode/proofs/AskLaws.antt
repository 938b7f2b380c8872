-- The inputs of a question can tell all that is asked of them.
use Rattle.std.proofs.Common.{◌≡◌, inl, ℕ, zero, suc, ◌<◌, ◌≤◌, false, List, [], ◌∷◌, take, length, get_or, Some, slice_get, refl, sym, subst, ◌∙◌, arith}
use Rattle.std.specs.List.{AllByRecursion}
use Rattle.bool_circuit.specs.declared.gate.Wire.{Wire}
use Rattle.bool_circuit.specs.declared.gate.Gate.{Gate}
use Rattle.bool_circuit.specs.declared.gate.Gate.TheVariants.{Input, Constant, Not, And, Mux}
use Rattle.bool_circuit.specs.Gates.{Grows, input_count, wire_value}
use Rattle.fs_semantics.specs.FileTree.{Tree}
use Rattle.path_domain.specs.declared.listed.Domain.{Domain}
use Rattle.fs_interpreter.specs.Meanings.{Valuation, Grows as MeaningsGrow}
use Rattle.fs_interpreter.specs.States.{state_of}
use Rattle.fs_interpreter.specs.Standing.{Stands}
use Rattle.fs_interpreter.specs.declared.cells.Cells.{Cells}
use Rattle.sym_run.specs.Wires.{number, AreWires, circuit_meanings}
use Rattle.sym_run.specs.Inputs.{AgreeOutside, AgreeBelow}
use Rattle.sym_run.specs.Numbers.{twice}
use Rattle.sym_run.specs.Trees.{IsTreeOver}
use Rattle.sym_run.proofs.CircuitLaws.{wires_stay, number_stays}
use Rattle.order_circuit.specs.Codes.{node, nodes, AreRows}
use Rattle.order_circuit.proofs.RunLaws.{nodes_stay}
use Rattle.order_encode.proofs.KnownLaws.{node_below}

-- ---- inputs are never fewer

-- a front of a circuit has no more inputs than the circuit
fewer_in_front : (n : ℕ) (gates : List Gate) → input_count (take n gates) ≤ input_count gates
fewer_in_front zero gates = omega arith
fewer_in_front (suc n) [] = omega arith
fewer_in_front (suc n) (Input i ∷ gates) = let less = fewer_in_front n gates in omega (arith, less)
fewer_in_front (suc n) (Constant b ∷ gates) = fewer_in_front n gates
fewer_in_front (suc n) (Not a ∷ gates) = fewer_in_front n gates
fewer_in_front (suc n) (And a b ∷ gates) = fewer_in_front n gates
fewer_in_front (suc n) (Mux c a b ∷ gates) = fewer_in_front n gates

-- a circuit has no fewer inputs as it grows
pub no_fewer : (old new : List Gate) → Grows old new → input_count old ≤ input_count new
no_fewer old new g = subst (λ gates. input_count gates ≤ input_count new) g.front (fewer_in_front (length old) new)

-- the nodes are those of the list, where each code tells the number at its place
nodes_are : (gates : List Gate) (v : Valuation) (rows : List (List Wire)) (order : List ℕ) → length rows ≡ length order
    → ((i : ℕ) (ws : List Wire) → slice_get rows i ≡ Some ws → number (wire_value gates v) ws ≡ get_or order i 0) → nodes gates v rows ≡ order
nodes_are gates v [] [] long h = refl
nodes_are gates v [] (k ∷ order) long h = absurd (omega (arith, long))
nodes_are gates v (ws ∷ rows) [] long h = absurd (omega (arith, long))
nodes_are gates v (ws ∷ rows) (k ∷ order) long h = λ x. h 0 ws refl x ∷ nodes_are gates v rows order (omega (arith, long)) (λ i. h (suc i)) x

-- ---- the inputs together

-- a place, an order and a tree are chosen one after the other, each without changing what was chosen before
pub asks_every : {B : Type 0} (d : Domain) (g0 g1 g2 g3 : List Gate) (cells : Cells B Wire (List Wire)) (codes : List (List Wire)) (place : List Wire) (n width : ℕ)
    → Grows g0 g1 → Grows g1 g2 → MeaningsGrow (circuit_meanings g2) (circuit_meanings g3) → AreWires g1 place → AreRows g2 codes → length codes ≡ n → n < twice width
    → ((u : Valuation) (x : ℕ) → x < twice width → (v : Valuation) × AgreeOutside (input_count g0) (input_count g1) u v × (number (wire_value g1 v) place ≡ x))
    → ((u v : Valuation) → ((i : ℕ) → input_count g0 ≤ i → i < input_count g1 → u i ≡ v i) → number (wire_value g1 u) place ≡ number (wire_value g1 v) place)
    → ((u : Valuation) (want : ℕ → ℕ) → ((i : ℕ) → i < n → want i < twice width) → (v : Valuation) × AgreeOutside (input_count g1) (input_count g2) u v × ((i : ℕ) (ws : List Wire) → slice_get codes i ≡ Some ws → number (wire_value g2 v) ws ≡ want i))
    → ((u v : Valuation) → ((i : ℕ) → input_count g1 ≤ i → i < input_count g2 → u i ≡ v i) → (i : ℕ) (ws : List Wire) → slice_get codes i ≡ Some ws → number (wire_value g2 u) ws ≡ number (wire_value g2 v) ws)
    → ((u : Valuation) (t : Tree) → IsTreeOver d t → (v : Valuation) × AgreeBelow (input_count g2) u v × Stands d.table (state_of (circuit_meanings g3) v cells) t)
    → (t : Tree) → IsTreeOver d t → (order : List ℕ) → length order ≡ n → AllByRecursion (λ k. k < n) order → (j : ℕ) → j < n
    → (v : Valuation) × Stands d.table (state_of (circuit_meanings g3) v cells) t × (nodes g3 v codes ≡ order) × (node g3 v place ≡ j)
asks_every d g0 g1 g2 g3 cells codes place n width g01 g12 g23 own rows long wide place_every place_same codes_every codes_same tree_every t over order is_long below j low =
    let one = place_every (λ i. false) j (omega (arith, low, wide)) in
    let two = codes_every one.0 (λ i. get_or order i 0) (λ i l. let under = node_below n order i below (omega (arith, l, is_long)) in omega (arith, under, wide)) in
    let three = tree_every two.0 t over in
    let v = three.0 in
    let fewer = no_fewer g1 g2 g12 in
    let rows_told = nodes_are g2 v codes order (long ∙ sym is_long) (λ i ws at. codes_same v two.0 (λ k low_k high_k. three.1 k high_k) i ws at ∙ two.2 i ws at) in
    let place_told = place_same v one.0 (λ k low_k high_k. three.1 k (omega (arith, high_k, fewer)) ∙ two.1 k (inl high_k)) ∙ one.2 in (
      v,
      three.2,
      nodes_stay g2 g3 codes g23 rows v ∙ rows_told,
      g23.code place (wires_stay g1 g2 place g12 own) v ∙ number_stays g1 g2 place g12 own v ∙ place_told,
    )
