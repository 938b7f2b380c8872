-- Texts that are equal have equal hashes, whatever stands before them.
use Rattle.std.proofs.Common.{◌≡◌, ℕ, ◌+◌, ◌*◌, ◌/◌, ◌%◌, ◌<◌, List, [], ◌∷◌, ap, sym, ◌∙◌, arith, lit≤, mod-lt, div-add-mod'}
use Rattle.std.proofs.Math.Nat.{add-mul-mod_self_left, add-mod-mod, mod-eq_of_lt, add-mul, mul_assoc, mul_comm, mul_left_comm}
use Rattle.pp_value.specs.Hashes.{modulus, base, next_hash, hash_from, power_from}

-- what is reduced is below the modulus
pub below : (n : ℕ) → n % modulus < modulus
below n = mod-lt n (lit≤ tt)

-- a factor may be reduced first
reduced : (a b c m : ℕ) → (a % m * b + c) % m ≡ (a * b + c) % m
reduced a b c m =
    sym (add-mul-mod_self_left (a % m * b + c) m (a / m * b)) ∙ ap (λ n. n % m) parts
  where
    parts : a % m * b + c + m * (a / m * b) ≡ a * b + c
    parts = omega (arith, add-mul (a / m * m) (a % m) b, mul_left_comm m (a / m) b, mul_assoc (a / m) m b, ap (λ n. n * b) (div-add-mod' a m))

-- one byte more, with what stands before
one_more : (h p s b c m : ℕ) → (h * (p * b % m) + (s * b + c) % m) % m ≡ ((h * p + s) % m * b + c) % m
one_more h p s b c m =
    add-mod-mod (h * (p * b % m)) (s * b + c) m ∙ ap (λ n. (n + (s * b + c)) % m) (mul_comm h (p * b % m)) ∙ reduced (p * b) h (s * b + c) m
    ∙ ap (λ n. n % m) parts ∙ sym (reduced (h * p + s) b c m)
  where
    parts : p * b * h + (s * b + c) ≡ (h * p + s) * b + c
    parts = omega (arith, add-mul (h * p) s b, mul_comm (p * b) h, mul_assoc h p b)

-- the hash of what goes on, by the hash before it and that of what follows
goes_from : (h p s front : ℕ) (text : List ℕ) → h ≡ (front * p + s) % modulus → hash_from h text ≡ (front * power_from p text + hash_from s text) % modulus
goes_from h p s front [] is = is
goes_from h p s front (c ∷ text) is =
    goes_from (next_hash h c) (p * base % modulus) (next_hash s c) front text (ap (λ n. (n * base + c) % modulus) is ∙ sym (one_more front p s base c modulus))

-- the hash of a text behind another is that one's, grown by the text's length, and the hash of the text
pub goes : (front : ℕ) (text : List ℕ) → front < modulus → hash_from front text ≡ (front * power_from 1 text + hash_from 0 text) % modulus
goes front text less = goes_from front 1 0 front text (sym (mod-eq_of_lt less) ∙ ap (λ n. n % modulus) (omega arith))
