-- Names as they are printed: without control characters, so that no name ends its line or begins another.
use Rattle.std.specs.Prelude.{ℕ, ◌+◌, ◌/◌, ◌%◌, ◌==◌, ◌||◌, Bool, false, ◌≡◌, nat_lt, if◌then◌else◌, List, [], ◌∷◌, codes, ◌++◌}
use Rattle.std.specs.List.{AllByRecursion, flat_map}

-- the characters of ASCII that have no sign of their own
abbrev pub is_control : ℕ → Bool
is_control b = nat_lt b 32 || (b == 127)

-- a hexadecimal digit, in lower case
abbrev pub hex_digit : ℕ → ℕ
hex_digit n = if nat_lt n 10 then 48 + n else 87 + n

-- a control character as `\x` and two digits
abbrev pub escaped : ℕ → List ℕ
escaped b = codes "\\x" ++ (hex_digit (b / 16) ∷ hex_digit (b % 16) ∷ [])

abbrev pub printed_byte : ℕ → List ℕ
printed_byte b = if is_control b then escaped b else b ∷ []

-- a name as it is printed
abbrev pub printed : List ℕ → List ℕ
printed name = flat_map printed_byte name

-- no control character stands in it
abbrev pub HasNoControl : List ℕ → Type 0
HasNoControl text = AllByRecursion (λ b. is_control b ≡ false) text
