-- What tokens that stand for themselves are worth.
use Rattle.std.specs.Prelude.{◌≡◌, ◌≢◌, ◌<◌, ◌≤◌, slice_index, ℕ, ◌+◌, ◌*◌, ◌^◌, not, true, false, ◌==◌, ◌&&◌, nat_lt, if◌then◌else◌, ℤ, pos, List, [], ◌∷◌, ◌++◌, length, Option, Some, None, encode_utf8, codes}
use Rattle.std.specs.Option.{option_map}
use Rattle.std.specs.Str.{bytes_eq}
use Rattle.pp_syntax.specs.declared.token.Kind.{Kind}
use Rattle.pp_syntax.specs.declared.token.Kind.TheVariants as kind
use Rattle.pp_syntax.specs.declared.tree.Form.{Form}
use Rattle.pp_syntax.specs.declared.tree.Form.TheVariants as form
use Rattle.pp_syntax.specs.Bytes.{is_hex}
use Rattle.pp_syntax.specs.Tokens.{int_value, digit_of, is_scalar, is_simple_escape}
use Rattle.pp_syntax.specs.TokenValues.{sq_value, simple_value}
use Rattle.rh_base.specs.Reading.{◌>>=◌}

-- no backslash in it, by place
abbrev pub HasNoBackslash : List ℕ → Type 0
HasNoBackslash text = (i : ℕ) → i < length text → slice_index text i ≢ 92

-- what stands before a quote at the end
abbrev pub before_quote : List ℕ → Option (List ℕ)
before_quote [] = None
before_quote (b ∷ []) = if b == 39 then Some [] else None
before_quote (b ∷ c ∷ s) = option_map (λ r. b ∷ r) (before_quote (c ∷ s))

-- what stands behind this byte
abbrev pub behind_byte : ℕ → List ℕ → Option (List ℕ)
behind_byte c [] = None
behind_byte c (b ∷ s) = if b == c then Some s else None

-- the value of a text with its single quotes
unfoldable pub sq : List ℕ → Option (List ℕ)
sq s = behind_byte 39 s >>= λ r. option_map sq_value (before_quote r)

-- a variable's name
abbrev pub name_of : List ℕ → Option (List ℕ)
name_of s = behind_byte 36 s

-- the number that an INT stands for, if it fits 64 bits with a sign
abbrev pub number : List ℕ → Option ℤ
number s = if nat_lt (int_value s) (2 ^ 63) then Some (pos (int_value s)) else None

abbrev pub int_form : List ℕ → Option Form
int_form s = if nat_lt (int_value s) (2 ^ 63) then Some (form.Int (pos (int_value s))) else None

-- `true`, `false` or `undef`
abbrev pub literal : List ℕ → Option Form
literal s = if bytes_eq s (codes "true") then Some (form.Bool true) else (if bytes_eq s (codes "false") then Some (form.Bool false) else (if bytes_eq s (codes "undef") then Some form.Undef else None))

-- the form of a token that is an operand by itself
abbrev pub atom : Kind → List ℕ → Option Form
atom kind.Int s = int_form s
atom kind.Sq s = option_map form.Str (sq s)
atom kind.Word s = Some (form.Str s)
atom kind.Var s = option_map form.Var (name_of s)
atom kind.Keyword s = literal s
atom _ s = None

-- ---- text in double quotes

abbrev pub with_bytes : List ℕ → Option (List ℕ) → Option (List ℕ)
with_bytes front None = None
with_bytes front (Some value) = Some (front ++ value)

-- a character, if the number is one, and what follows
abbrev pub with_scalar : ℕ → Option (List ℕ) → Option (List ℕ)
with_scalar n more = if is_scalar n then with_bytes (encode_utf8 n) more else None

-- The value of text in double quotes, of what stands behind a backslash, behind `\u`, and behind some digits with this value.
abbrev mutual
  pub dq : List ℕ → Option (List ℕ)
  dq [] = Some []
  dq (b ∷ raw) = if b == 92 then dq_escaped raw else with_bytes (b ∷ []) (dq raw)

  pub dq_escaped : List ℕ → Option (List ℕ)
  dq_escaped [] = Some (92 ∷ [])
  dq_escaped (c ∷ raw) = if is_simple_escape c then with_bytes (simple_value c ∷ []) (dq raw) else
      (if c == 117 then dq_unicode raw else with_bytes (92 ∷ []) (with_bytes (c ∷ []) (dq raw)))

  pub dq_unicode : List ℕ → Option (List ℕ)
  dq_unicode [] = None
  dq_unicode (b ∷ raw) = if b == 123 then dq_braced 0 0 raw else (if is_hex b then dq_four 1 (digit_of b) raw else None)

  pub dq_four : ℕ → ℕ → List ℕ → Option (List ℕ)
  dq_four count value [] = None
  dq_four count value (b ∷ raw) = if is_hex b then
      (if count == 3 then with_scalar (value * 16 + digit_of b) (dq raw) else dq_four (count + 1)
      (value * 16 + digit_of b) raw) else None

  pub dq_braced : ℕ → ℕ → List ℕ → Option (List ℕ)
  dq_braced count value [] = None
  dq_braced count value (b ∷ raw) = if b == 125 then (if count == 0 then None else with_scalar value (dq raw)) else
      (if is_hex b && not (count == 6) then dq_braced (count + 1) (value * 16 + digit_of b) raw else None)

-- a character with these bytes, and the value of what follows; or none
abbrev pub GivesChar : Option (ℕ × List ℕ) → Option (List ℕ) → Type 0
GivesChar None read = read ≡ None
GivesChar (Some x) read = read ≡ with_bytes (encode_utf8 x.0) (dq x.1)

-- a hexadecimal digit at the front, by its value
abbrev pub hex_front : List ℕ → Option (ℕ × List ℕ)
hex_front [] = None
hex_front (b ∷ s) = if is_hex b then Some (digit_of b, s) else None

-- the character of a simple escape
abbrev pub simple_front : List ℕ → Option (ℕ × List ℕ)
simple_front [] = None
simple_front (c ∷ s) = if is_simple_escape c then Some (simple_value c, s) else None

-- no ASCII character stands first
abbrev pub NoAsciiFirst : List ℕ → Type 0
NoAsciiFirst [] = Unit {0}
NoAsciiFirst (b ∷ s) = 128 ≤ b
