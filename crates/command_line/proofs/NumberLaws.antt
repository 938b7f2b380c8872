-- A number in the words is from 1 to the greatest one.
use Rattle.std.proofs.Common.{◌≡◌, ◌≤◌, ◌+◌, ◌-◌, ◌*◌, ◌==◌, ◌&&◌, ℕ, cond, nat_le, List, [], ◌∷◌, Some, None, arith, leb-true}
use Rattle.std.proofs.lemmas.Bool.{eqb-false, and_parts}
use Rattle.command_line.specs.Words.{digits_within, number_in}
use Rattle.rh_base.proofs.Options.{if_some, unless_some}

-- a digit, and what is behind it
one_digit : (most n b m : ℕ) (word : List ℕ) → digits_within most n (b ∷ word) ≡ Some m
    → (48 ≤ b) × (10 * n + (b - 48) ≤ most) × (digits_within most (10 * n + (b - 48)) word ≡ Some m)
one_digit most n b m word h =
    let outer = if_some (nat_le 48 b && nat_le b 57) (cond (nat_le (10 * n + (b - 48)) most) (digits_within most (10 * n + (b - 48)) word) None) m h in
    let inner = if_some (nat_le (10 * n + (b - 48)) most) (digits_within most (10 * n + (b - 48)) word) m outer.1 in
    let digit = and_parts (nat_le 48 b) (nat_le b 57) outer.0 in
    (leb-true 48 b digit.0, leb-true (10 * n + (b - 48)) most inner.0, inner.1)

-- digits behind a number tell no lesser one
at_least : (most n m : ℕ) (word : List ℕ) → digits_within most n word ≡ Some m → n ≤ m
at_least most n m [] h = let same : n ≡ m = cc in omega (arith, same)
at_least most n m (b ∷ word) h =
    let one = one_digit most n b m word h in
    let more = at_least most (10 * n + (b - 48)) m word one.2 in
    omega (arith, more)

-- and none greater than may be
at_most : (most n m : ℕ) (word : List ℕ) → n ≤ most → digits_within most n word ≡ Some m → m ≤ most
at_most most n m [] small h = let same : n ≡ m = cc in omega (arith, same, small)
at_most most n m (b ∷ word) small h = let one = one_digit most n b m word h in at_most most (10 * n + (b - 48)) m word one.1 one.2

-- a number in the words is from 1 to the greatest one
pub in_range : (most m : ℕ) (word : List ℕ) → number_in most word ≡ Some m → (1 ≤ m) × (m ≤ most)
in_range most m [] h = cc
in_range most m (b ∷ word) h =
    let some = unless_some (b == 48) (digits_within most 0 (b ∷ word)) m h in
    let no_zero = eqb-false b 48 some.0 in
    let one = one_digit most 0 b m word some.1 in
    let more = at_least most (10 * 0 + (b - 48)) m word one.2 in
    let low = one.0 in
    (omega (arith, more, low, no_zero), at_most most 0 m (b ∷ word) (omega arith) some.1)
