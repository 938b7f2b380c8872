-- Hashes of texts: equal texts have equal hashes, so a text whose hash is another one isn't compared.
use Rattle.std.specs.Prelude.{ℕ, ◌+◌, ◌*◌, ◌%◌, ◌==◌, Bool, List, [], ◌∷◌}

-- the largest prime below 2 ^ 32
abbrev pub modulus : ℕ
modulus = 4294967291

-- what a hash is multiplied by for each further byte
abbrev pub base : ℕ
base = 2654435761

-- the hash of a text that goes on by a byte
abbrev pub next_hash : ℕ → ℕ → ℕ
next_hash hash byte = (hash * base + byte) % modulus

-- the hash of a text that goes on by these bytes
abbrev pub hash_from : ℕ → List ℕ → ℕ
hash_from hash [] = hash
hash_from hash (byte ∷ more) = hash_from (next_hash hash byte) more

-- what a hash counts for after so many bytes
abbrev pub power_from : ℕ → List ℕ → ℕ
power_from power [] = power
power_from power (byte ∷ more) = power_from (power * base % modulus) more

-- a text of this hash goes on as one of another hash does, as far as the hashes tell
abbrev pub goes_on : ℕ → ℕ → ℕ → ℕ → Bool
goes_on front power sought end = (front * power + sought) % modulus == end
