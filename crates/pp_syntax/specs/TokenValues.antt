-- What texts in quotes stand for.
use Rattle.std.specs.Prelude.{◌≡◌, ◌≢◌, ℕ, ◌≤◌, ◌==◌, ◌||◌, if◌then◌else◌, List, [], ◌∷◌, ◌++◌, length, IsTrue, encode_utf8}
use Rattle.pp_syntax.specs.Bytes.{is_hex}
use Rattle.pp_syntax.specs.Tokens.{Of, is_simple_escape, is_scalar, hex_value, NoEscape}

-- Between single quotes a backslash before a backslash or a quote is an escape, and every other one stands for itself.
abbrev mutual
  pub sq_value : List ℕ → List ℕ
  sq_value [] = []
  sq_value (b ∷ raw) = if b == 92 then sq_escaped raw else b ∷ sq_value raw

  pub sq_escaped : List ℕ → List ℕ
  sq_escaped [] = 92 ∷ []
  sq_escaped (c ∷ raw) = if (c == 92) || (c == 39) then c ∷ sq_value raw else 92 ∷ c ∷ sq_value raw

-- the text in single quotes with this value
abbrev pub SqOf : List ℕ → List ℕ → Type 0
SqOf value text = (raw : List ℕ) × (text ≡ 39 ∷ (raw ++ 39 ∷ [])) × (value ≡ sq_value raw)

-- `\n \r \t \s`, and the others for themselves
abbrev pub simple_value : ℕ → ℕ
simple_value c = if c == 110 then 10 else (if c == 114 then 13 else (if c == 116 then 9 else (if c == 115 then 32 else c)))

-- what stands behind a backslash, and the bytes that the escape stands for
pub data EscapeOf (value front : List ℕ) : Type 0 where
  simple : (c : ℕ) → front ≡ c ∷ [] → IsTrue (is_simple_escape c) → value ≡ simple_value c ∷ [] → EscapeOf value front
  four : (digits : List ℕ) → front ≡ 117 ∷ digits → length digits ≡ 4 → Of is_hex digits
      → IsTrue (is_scalar (hex_value digits)) → value ≡ encode_utf8 (hex_value digits) → EscapeOf value front
  braced : (digits : List ℕ) → front ≡ 117 ∷ 123 ∷ (digits ++ 125 ∷ []) → 1 ≤ length digits → length digits ≤ 6
      → Of is_hex digits → IsTrue (is_scalar (hex_value digits)) → value ≡ encode_utf8 (hex_value digits)
      → EscapeOf value front

-- text in double quotes with this value
pub data DqOf : List ℕ → List ℕ → Type 0 where
  nothing : {value raw : List ℕ} → value ≡ [] → raw ≡ [] → DqOf value raw
  plain : {value raw : List ℕ} (b : ℕ) (rest more : List ℕ) → value ≡ b ∷ rest → raw ≡ b ∷ more → b ≢ 92 → DqOf rest more → DqOf value raw
  escape : {value raw : List ℕ} (here rest front more : List ℕ) → value ≡ here ++ rest → raw ≡ 92 ∷ (front ++ more)
      → EscapeOf here front → DqOf rest more → DqOf value raw
  backslash : {value raw : List ℕ} (rest more : List ℕ) → value ≡ 92 ∷ rest → raw ≡ 92 ∷ more → NoEscape more
      → DqOf rest more → DqOf value raw
