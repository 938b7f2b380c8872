-- The numbers that digits stand for.
use Rattle.std.proofs.Common.{◌≡◌, ℕ, suc, ◌+◌, ◌*◌, ◌^◌, ◌<◌, ◌≤◌, true, false, nat_lt, List, [], ◌∷◌, length, drop, get_or, arith}
use Rattle.std.proofs.Math.Seq.{drop-cons}
use Rattle.std.proofs.lemmas.Bool.Decides.{nat_tests}
use Rattle.std.proofs.Math.Nat.{mul-le-mul_left}
use Rattle.pp_syntax.specs.Tokens.{digit_of, value_from, is_scalar}

-- digits behind a number don't make it less
pub value_grows : (base before : ℕ) (digits : List ℕ) → 1 ≤ base → before ≤ value_from base before digits
value_grows base before [] h = omega arith
value_grows base before (d ∷ digits) h =
    omega (arith, value_grows base (before * base + digit_of d) digits h, mul-le-mul_left before h)

-- a number of more than 63 bits is no character
pub too_large : (n : ℕ) → 2 ^ 63 ≤ n → is_scalar n ≡ false
too_large n h = grind (arith, nat_tests)

-- A number that is passed while reading digits isn't above what they stand for.
pub passed : (base before i least : ℕ) (digits : List ℕ) → i < length digits → 1 ≤ base → least ≤ before * base + digit_of (get_or digits i 0) → least ≤ value_from base before (drop i digits)
passed base before i least digits inside h above =
    let e : drop i digits ≡ get_or digits i 0 ∷ drop (suc i) digits = drop-cons digits i 0 inside in
    rw e (omega (arith, value_grows base (before * base + digit_of (get_or digits i 0)) (drop (suc i) digits) h))

-- a number that fits 63 bits is told to
pub fits : (n : ℕ) → n < 2 ^ 63 → nat_lt n (2 ^ 63) ≡ true
fits n h = grind (arith, nat_tests)

-- and one that doesn't isn't
pub fits_not : (n : ℕ) → 2 ^ 63 ≤ n → nat_lt n (2 ^ 63) ≡ false
fits_not n h = grind (arith, nat_tests)
