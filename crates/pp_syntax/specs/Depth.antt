-- How deep a token is nested.
use Rattle.std.specs.Prelude.{◌≡◌, ◌⊎◌, ℕ, zero, suc, ◌+◌, ◌-◌, ◌<◌, Bool, true, false, if◌then◌else◌, List, [], ◌∷◌, ◌++◌, codes}
use Rattle.rh_base.specs.declared.limits.TheConstants.{NESTING}
use Rattle.pp_syntax.specs.declared.token.Kind.{Kind}
use Rattle.pp_syntax.specs.declared.token.Kind.TheVariants as kind
use Rattle.pp_syntax.specs.Tokens.{Lexeme, is_among}

-- ---- brackets

-- a token of this kind and text opens a bracket
abbrev pub opens_by : Kind → List ℕ → Bool
opens_by kind.Tight text = true
opens_by kind.Loose text = true
opens_by kind.Hole text = true
opens_by kind.Sign text = is_among (codes "(" ∷ codes "{" ∷ codes "<|" ∷ []) text
opens_by _ text = false

-- a token of this kind and text closes one
abbrev pub closes_by : Kind → List ℕ → Bool
closes_by kind.HoleEnd text = true
closes_by kind.Sign text = is_among (codes ")" ∷ codes "]" ∷ codes "}" ∷ codes "|>" ∷ []) text
closes_by _ text = false

-- The token is one of `( [ { ${ <|`, or one of `) ] } |>` and the `}` that ends a `${`.
abbrev pub opens : Lexeme → Bool
opens t = opens_by t.kind t.text

abbrev pub closes : Lexeme → Bool
closes t = closes_by t.kind t.text

-- how many brackets stand open behind these tokens, where so many did before them; a closing bracket closes the last one, whatever its kind
abbrev pub open_from : ℕ → List Lexeme → ℕ
open_from n [] = n
open_from n (t ∷ tokens) = open_from (if opens t then n + 1 else (if closes t then n - 1 else n)) tokens

-- Each bracket that is opened in these tokens is closed in them, and no other is closed.
pub data AreClosed : List Lexeme → Type 0 where
  nothing : {tokens : List Lexeme} → tokens ≡ [] → AreClosed tokens
  other : {tokens : List Lexeme} (t : Lexeme) (more : List Lexeme) → tokens ≡ t ∷ more → opens t ≡ false
      → closes t ≡ false → AreClosed more → AreClosed tokens
  bracket : {tokens : List Lexeme} (o c : Lexeme) (inner more : List Lexeme) → tokens ≡ o ∷ (inner ++ c ∷ more)
      → opens o ≡ true → AreClosed inner → closes c ≡ true → AreClosed more → AreClosed tokens

-- ---- what stands in one row

-- the token is this sign
abbrev pub IsSign : List ℕ → Lexeme → Type 0
IsSign text t = (t.kind ≡ kind.Sign) × (t.text ≡ text)

-- a tight `[`, or a `?` with a `{` directly behind it, with all up to the bracket that closes it
pub data IsPostfix (tokens : List Lexeme) : Type 0 where
  index : (o c : Lexeme) (inner : List Lexeme) → tokens ≡ o ∷ (inner ++ c ∷ []) → o.kind ≡ kind.Tight → AreClosed inner
      → closes c ≡ true → IsPostfix tokens
  selection : (q o c : Lexeme) (inner : List Lexeme) → tokens ≡ q ∷ o ∷ (inner ++ c ∷ []) → IsSign (codes "?") q → IsSign (codes "{") o → AreClosed inner → closes c ≡ true → IsPostfix tokens

-- The tokens end with so many postfixes in one row.
abbrev pub EndWithPostfixes : ℕ → List Lexeme → Type 0
EndWithPostfixes zero tokens = Unit {0}
EndWithPostfixes (suc n) tokens = (front : List Lexeme) × (last : List Lexeme) × (tokens ≡ front ++ last)
    × IsPostfix last × EndWithPostfixes n front

-- the token may stand before an operand
abbrev pub IsPrefix : Lexeme → Type 0
IsPrefix t = IsSign (codes "!") t ⊎ IsSign (codes "-") t

-- The tokens end with so many `!` and `-` in one run.
abbrev pub EndWithPrefixes : ℕ → List Lexeme → Type 0
EndWithPrefixes zero tokens = Unit {0}
EndWithPrefixes (suc n) tokens = (front : List Lexeme) × (last : Lexeme) × (tokens ≡ front ++ last ∷ []) × IsPrefix last
    × EndWithPrefixes n front

-- ---- the depth

-- what a token adds to the brackets that stand open before it: an opening bracket itself; a tight `[` and a `?` the postfixes that stand in one row directly before; `!` and `-` the run that ends there
pub data Adds (before : List Lexeme) (t : Lexeme) (n : ℕ) : Type 0 where
  nothing : n ≡ 0 → Adds before t n
  itself : opens t ≡ true → n ≡ 1 → Adds before t n
  index : (row : ℕ) → t.kind ≡ kind.Tight → EndWithPostfixes row before → n ≡ 1 + row → Adds before t n
  selection : (row : ℕ) → IsSign (codes "?") t → EndWithPostfixes row before → n ≡ row → Adds before t n
  prefix : (run : ℕ) → IsPrefix t → EndWithPrefixes run before → n ≡ 1 + run → Adds before t n

-- With what it adds, more brackets stand open than the limit.
abbrev pub IsTooDeep : List Lexeme → Lexeme → List Lexeme → Type 0
IsTooDeep before t behind = (n : ℕ) × Adds before t n × (NESTING < open_from 0 before + n)
