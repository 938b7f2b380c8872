-- How numbers are read.
use Rattle.std.specs.Prelude.{◌==◌, ◌&&◌, nat_lt, nat_le, ℕ, ◌+◌, ◌-◌, ◌*◌, ◌^◌, if◌then◌else◌, [], ◌∷◌, Option, Some, None}
use Rattle.cnf.specs.ProofText.{Word}

-- decimal digits behind a number, while it fits i64
abbrev pub digits_behind : ℕ → Word → Option ℕ
digits_behind n [] = Some n
digits_behind n (b ∷ word) = if nat_le 48 b && nat_le b 57 then
    (if nat_lt (10 * n + (b - 48)) (2 ^ 63) then digits_behind (10 * n + (b - 48)) word else None) else None

-- a number without a sign and without a leading zero
abbrev pub number_in : Word → Option ℕ
number_in [] = None
number_in (b ∷ []) = digits_behind 0 (b ∷ [])
number_in (b ∷ d ∷ word) = if b == 48 then None else digits_behind 0 (b ∷ d ∷ word)
