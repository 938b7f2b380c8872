-- Comparison of binary numbers bit by bit, and the digits of a number.
use Rattle.std.proofs.Common.{◌≡◌, ℕ, zero, suc, ◌+◌, ◌*◌, ◌<◌, ◌≤◌, ◌==◌, ◌/◌, ◌%◌, Bool, true, false, refl, sym, ap, ◌∙◌, arith, eqb-true, nat_lt, ltb-true}
use Rattle.std.proofs.lemmas.Bool.{eqb-false, lt-ltb, le-ltb, ltb-false}
use Rattle.std.proofs.Math.Nat.{div-add-mod}
use Rattle.std.specs.Prelude.{◌&&◌, ◌||◌}
use Rattle.sym_run.specs.Wires.{bit_number}
use Rattle.sym_run.specs.Numbers.{twice, less_with, bit_less}
use Rattle.sym_run.proofs.CircuitLaws.{halves}

-- numbers that are equal are told to be
pub eqb_is : (m n : ℕ) → m ≡ n → (m == n) ≡ true
eqb_is m n e = elim (m == n) as (λ b. (m == n) ≡ b → b ≡ true) [ true ↦ λ k. refl | false ↦ λ k. absurd (eqb-false m n k e) ] refl

-- numbers that differ are told to
pub eqb_not : (m n : ℕ) → (m ≡ n → ⊥) → (m == n) ≡ false
eqb_not m n e = elim (m == n) as (λ b. (m == n) ≡ b → b ≡ false) [ true ↦ λ k. absurd (e (eqb-true m n k)) | false ↦ λ k. refl ] refl

-- the comparison is known
surely : (m n : ℕ) (rest : Bool) → m < n → less_with m n rest ≡ true
surely m n rest h = ap (λ b. b || ((m == n) && rest)) (lt-ltb m n h)

-- a greater number is never less, whatever the rest
never : (m n : ℕ) (rest : Bool) → n < m → less_with m n rest ≡ false
never m n rest h = (λ i. le-ltb m n (omega (arith, h)) i || (eqb_not m n (λ e. absurd (omega (arith, h, e))) i && rest))

-- between equal numbers the rest decides
tied : (m n : ℕ) (rest : Bool) → m ≡ n → less_with m n rest ≡ rest
tied m n rest e = (λ i. le-ltb m n (omega (arith, e)) i || (eqb_is m n e i && rest))

-- between numbers that differ in the last bit at most, that bit decides, and then the rest
same_front : (a : ℕ) (x y rest : Bool) → less_with (2 * a + bit_number x) (2 * a + bit_number y) rest ≡ bit_less x y rest
same_front a true true rest = tied (2 * a + 1) (2 * a + 1) rest refl
same_front a true false rest = never (2 * a + 1) (2 * a + 0) rest (omega arith)
same_front a false true rest = surely (2 * a + 0) (2 * a + 1) rest (omega arith)
same_front a false false rest = tied (2 * a + 0) (2 * a + 0) rest refl

-- a bit is one at most
bit_at_most : (x : Bool) → bit_number x ≤ 1
bit_at_most true = omega arith
bit_at_most false = omega arith

-- a comparison of numbers is one of their fronts, then of their last bits, then of the rest
pub less_bits : (a m : ℕ) (x y rest : Bool) → less_with (2 * a + bit_number x) (2 * m + bit_number y) rest ≡ less_with a m (bit_less x y rest)
less_bits a m x y rest = elim (nat_lt a m) as (λ b. nat_lt a m ≡ b → less_with (2 * a + bit_number x) (2 * m + bit_number y) rest ≡ less_with a m (bit_less x y rest)) [
  | true ↦ λ e. let below = ltb-true a m e in
      surely (2 * a + bit_number x) (2 * m + bit_number y) rest (omega (arith, below, bit_at_most x)) ∙ sym (surely a m (bit_less x y rest) below)
  | false ↦ λ e. let above = ltb-false a m e in elim (a == m) as (λ b. (a == m) ≡ b → less_with (2 * a + bit_number x) (2 * m + bit_number y) rest ≡ less_with a m (bit_less x y rest)) [
    | true ↦ λ k. let same = eqb-true a m k in
        ap (λ n. less_with (2 * a + bit_number x) (2 * n + bit_number y) rest) (sym same) ∙ same_front a x y rest ∙ sym (tied a m (bit_less x y rest) same)
    | false ↦ λ k. let apart = eqb-false a m k in let more : m < a = above_apart above apart in
        never (2 * a + bit_number x) (2 * m + bit_number y) rest (omega (arith, more, bit_at_most y)) ∙ sym (never a m (bit_less x y rest) more)
  ] refl
] refl
  where
    above_apart : m ≤ a → (a ≡ m → ⊥) → m < a
    above_apart h k = elim (nat_lt m a) as (λ b. nat_lt m a ≡ b → m < a) [
      | true ↦ λ e. ltb-true m a e
      | false ↦ λ e. let low = ltb-false m a e in absurd (k (omega (arith, h, low)))
    ] refl

-- one digit of a comparison
pub less_step : (a n : ℕ) (x rest : Bool) → less_with (2 * a + bit_number x) n rest ≡ less_with a (n / 2) (bit_less x (n % 2 == 1) rest)
less_step a n x rest = ap (λ m. less_with (2 * a + bit_number x) m rest) (sym (halves n)) ∙ less_bits a (n / 2) x (n % 2 == 1) rest

-- where the rest isn't less, the comparison is that of the numbers
pub less_none : (m n : ℕ) (rest : Bool) → rest ≡ false → less_with m n rest ≡ nat_lt m n
less_none m n rest e = (λ i. nat_lt m n || ((m == n) && e i)) ∙ flat (nat_lt m n) (m == n)
  where
    flat : (b c : Bool) → (b || (c && false)) ≡ b
    flat true c = refl
    flat false true = refl
    flat false false = refl

-- zero is less than each number above it, whatever the rest
pub none_less : (n : ℕ) (rest : Bool) → 0 < n → less_with 0 n rest ≡ true
none_less n rest h = surely 0 n rest h

-- the half of a number has room in one bit less
pub half_below : (width n : ℕ) → n < twice (suc width) → n / 2 < twice width
half_below width n h = let parts = div-add-mod n 2 in omega (arith, h, parts)

-- one bit more tells twice as much
pub width_more : (m r : ℕ) → m / 2 < twice r → m < twice (r + 1)
width_more m r h =
    let step : r + 1 ≡ suc r = omega arith in
    let next : twice (r + 1) ≡ twice (suc r) = ap twice step in
    omega (arith, h, halves m, bit_at_most (m % 2 == 1), next)

-- and one bit less does not
pub width_least : (m r : ℕ) → 0 < m → ((w : ℕ) → m / 2 < twice w → r ≤ w) → (w : ℕ) → m < twice w → r + 1 ≤ w
width_least m r some least zero h = absurd (omega (arith, some, h))
width_least m r some least (suc w) h = let below = least w (half_below w m h) in omega (arith, below)
