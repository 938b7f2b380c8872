-- Numbers that bits tell.
use Rattle.std.specs.Prelude.{ℕ, zero, suc, ◌*◌, ◌/◌, ◌%◌, ◌==◌, Bool, false, not, ◌&&◌, ◌||◌, nat_lt, if◌then◌else◌}

-- two to this power
abbrev pub twice : ℕ → ℕ
twice zero = 1
twice (suc n) = 2 * twice n

-- the first number is less, or the two are the same and the rest is less
abbrev pub less_with : ℕ → ℕ → Bool → Bool
less_with m n rest = nat_lt m n || ((m == n) && rest)

-- the same of single bits
abbrev pub bit_less : Bool → Bool → Bool → Bool
bit_less x y rest = if y then not x || rest else not x && rest

-- the bit of a number of so many bits at a place from the highest on
abbrev pub digit : ℕ → ℕ → ℕ → Bool
digit zero n j = false
digit (suc width) n j = if j == width then n % 2 == 1 else digit width (n / 2) j
