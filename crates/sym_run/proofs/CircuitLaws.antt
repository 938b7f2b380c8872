-- What stays as a circuit grows, and bits at the end of a number.
use Rattle.std.proofs.Common.{◌≡◌, ℕ, zero, suc, ◌+◌, ◌*◌, ◌<◌, ◌≤◌, ◌==◌, Bool, true, false, cond, List, [], ◌∷◌, ◌++◌, length, drop, ◌/◌, ◌%◌, refl, sym, ap, ◌∙◌, arith, eqb-true}
use Rattle.std.proofs.lemmas.Bool.{eqb-false}
use Rattle.std.proofs.Math.Nat.{div-add-mod}
use Rattle.std.specs.Prelude.{◌&&◌, not, get_or}
use Rattle.std.specs.List.{AllByRecursion}
use Rattle.bool_circuit.specs.declared.gate.Wire.{Wire}
use Rattle.bool_circuit.specs.declared.gate.Gate.{Gate}
use Rattle.bool_circuit.specs.Gates as gates
use Rattle.fs_interpreter.specs.Meanings.{Grows}
use Rattle.sym_run.specs.Wires.{bit_number, number_on, number, AreWires, circuit_meanings}

-- wires of a circuit are wires as it grows
pub wires_stay : (old new : List Gate) (ws : List Wire) → gates.Grows old new → AreWires old ws → AreWires new ws
wires_stay old new [] g all = tt
wires_stay old new (w ∷ ws) g all = (omega (arith, g.more, all.0), wires_stay old new ws g all.1)

-- a number with wires behind it is the same as the circuit grows
same_on : (old new : List Gate) (ws : List Wire) (n : ℕ) → gates.Grows old new → AreWires old ws → (inputs : ℕ → Bool)
    → number_on (gates.wire_value new inputs) n ws ≡ number_on (gates.wire_value old inputs) n ws
same_on old new [] n g all inputs = refl
same_on old new (w ∷ ws) n g all inputs =
    ap (λ b. number_on (gates.wire_value new inputs) (2 * n + bit_number b) ws) (g.values inputs w.0 all.0) ∙ same_on old new ws _ g all.1 inputs

-- the number that wires tell is the same as the circuit grows
pub number_stays : (old new : List Gate) (ws : List Wire) → gates.Grows old new → AreWires old ws → (inputs : ℕ → Bool)
    → number (gates.wire_value new inputs) ws ≡ number (gates.wire_value old inputs) ws
number_stays old new ws g all inputs = same_on old new ws 0 g all inputs

-- as a circuit grows its bits and codes keep their meaning
pub circuit_grows : (old new : List Gate) → gates.Grows old new → Grows (circuit_meanings old) (circuit_meanings new)
circuit_grows old new g = record {
  owns = λ w h. omega (arith, g.more, h);
  owns_code = λ ws all. wires_stay old new ws g all;
  bit = λ w h v. g.values v w.0 h;
  code = λ ws all v. number_stays old new ws g all v;
}

-- one bit more at the end doubles the number and adds the bit
on_snoc : (values : ℕ → Bool) (n : ℕ) (ws : List Wire) (w : Wire) → number_on values n (ws ++ w ∷ []) ≡ 2 * number_on values n ws + bit_number (values w.0)
on_snoc values n [] w = refl
on_snoc values n (x ∷ ws) w = on_snoc values (2 * n + bit_number (values x.0)) ws w

-- a number with bits behind it is no less
pub on_more : (values : ℕ → Bool) (n : ℕ) (ws : List Wire) → n ≤ number_on values n ws
on_more values n [] = omega arith
on_more values n (w ∷ ws) = let rest = on_more values (2 * n + bit_number (values w.0)) ws in omega (arith, rest)

-- the next bit
pub next_bit : (values : ℕ → Bool) (n : ℕ) (ws : List Wire) (k m b : ℕ) (d : Wire) → number_on values n (drop k ws) ≡ m → k < length ws → b ≡ bit_number (values (get_or ws k d).0) → 2 * n + b ≤ m
next_bit values n [] k m b d e h is = absurd (omega (arith, h))
next_bit values n (w ∷ ws) zero m b d e h is = let rest = on_more values (2 * n + bit_number (values w.0)) ws in omega (arith, rest, e, is)
next_bit values n (w ∷ ws) (suc k) m b d e h is = next_bit values n ws k m b d e (omega (arith, h)) is

-- one wire more at the end doubles the number and adds its bit
pub number_snoc : (values : ℕ → Bool) (ws : List Wire) (w : Wire) → number values (ws ++ w ∷ []) ≡ 2 * number values ws + bit_number (values w.0)
number_snoc values ws w = on_snoc values 0 ws w

-- wires with one more are wires
pub wires_snoc : (n : ℕ) (ws : List Wire) (w : Wire) → AllByRecursion (λ x. x.0 < n) ws → w.0 < n → AllByRecursion (λ x. x.0 < n) (ws ++ w ∷ [])
wires_snoc n [] w all h = (h, tt)
wires_snoc n (x ∷ ws) w all h = (all.0, wires_snoc n ws w all.1 h)

-- of wires all but the last are wires
pub wires_front : (n : ℕ) (ws : List Wire) (w : Wire) → AllByRecursion (λ x. x.0 < n) (ws ++ w ∷ []) → AllByRecursion (λ x. x.0 < n) ws
wires_front n [] w all = tt
wires_front n (x ∷ ws) w all = (all.0, wires_front n ws w all.1)

-- and so is the last
pub wires_last : (n : ℕ) (ws : List Wire) (w : Wire) → AllByRecursion (λ x. x.0 < n) (ws ++ w ∷ []) → w.0 < n
wires_last n [] w all = all.0
wires_last n (x ∷ ws) w all = wires_last n ws w all.1

-- a circuit that grows twice keeps the values of its first wires
pub grows_on : (a b c : List Gate) → gates.Grows a b → gates.Grows b c → (inputs : ℕ → Bool) (k : ℕ) → k < length a → gates.wire_value c inputs k ≡ gates.wire_value a inputs k
grows_on a b c g h inputs k below = h.values inputs k (omega (arith, g.more)) ∙ g.values inputs k below

-- the last bit behind a chosen front
pub chosen : (b x y : Bool) (p q : ℕ) → 2 * cond b p q + bit_number (cond b x y) ≡ cond b (2 * p + bit_number x) (2 * q + bit_number y)
chosen true x y p q = refl
chosen false x y p q = refl

-- numbers with a bit at the end are equal exactly where the numbers and the bits are
tests : (p q : ℕ) (c d : ℕ) → c < 2 → d < 2 → ((p == q) && (c == d)) ≡ (2 * p + c == 2 * q + d)
tests p q c d h k = by_case (p == q) (c == d) (2 * p + c == 2 * q + d)
    (λ e f. let one = eqb-true p q e in let two = eqb-true c d f in eqb-is (2 * p + c) (2 * q + d) (omega arith))
    (λ e. let one = eqb-true (2 * p + c) (2 * q + d) e in (eqb-is p q (omega arith), eqb-is c d (omega arith)))
  where
    eqb-is : (m n : ℕ) → m ≡ n → (m == n) ≡ true
    eqb-is m n e = elim (m == n) as (λ b. (m == n) ≡ b → b ≡ true) [ true ↦ λ k. refl | false ↦ λ k. absurd (eqb-false m n k e) ] refl

    by_case : (x y z : Bool) → (x ≡ true → y ≡ true → z ≡ true) → (z ≡ true → (x ≡ true) × (y ≡ true)) → (x && y) ≡ z
    by_case true true z f g = sym (f refl refl)
    by_case true false true f g = (g refl).1
    by_case true false false f g = refl
    by_case false y true f g = (g refl).0
    by_case false y false f g = refl

-- bits are the same exactly where their numbers are
bit_same : (x y : Bool) → cond x y (not y) ≡ (bit_number x == bit_number y)
bit_same true true = refl
bit_same true false = refl
bit_same false true = refl
bit_same false false = refl

-- a bit is below two
bit_below : (x : Bool) → bit_number x < 2
bit_below true = omega arith
bit_below false = omega arith

-- numbers with a bit at the end are equal exactly where the fronts are and the bits agree
pub all_same : (x y : Bool) (p q : ℕ) → ((p == q) && cond x y (not y)) ≡ (2 * p + bit_number x == 2 * q + bit_number y)
all_same x y p q = ap (λ b. (p == q) && b) (bit_same x y) ∙ tests p q (bit_number x) (bit_number y) (bit_below x) (bit_below y)

-- an odd or even number and its half
pub halves : (n : ℕ) → 2 * (n / 2) + bit_number (n % 2 == 1) ≡ n
halves n = elim (n % 2 == 1) as (λ b. (n % 2 == 1) ≡ b → 2 * (n / 2) + bit_number b ≡ n) [
  | true ↦ λ e. let one = eqb-true (n % 2) 1 e in omega (arith, div-add-mod n 2)
  | false ↦ λ e. let none = eqb-false (n % 2) 1 e in omega (arith, div-add-mod n 2)
] refl
