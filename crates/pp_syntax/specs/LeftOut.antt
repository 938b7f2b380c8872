-- The first token of a list at which something holds, and the tokens that this language leaves out.
use Rattle.std.specs.Prelude.{◌≡◌, ◌⊎◌, ℕ, ◌<◌, false, List, [], ◌∷◌, ◌++◌, length, codes}
use Rattle.pp_syntax.specs.declared.token.Kind.TheVariants as kind
use Rattle.pp_syntax.specs.Tokens.{Lexeme, is_among}
use Rattle.pp_syntax.specs.Statements.{functions}

-- This is the first token with such tokens before and behind it.
pub record IsFirst (P : List Lexeme → Lexeme → List Lexeme → Type 0) (tokens : List Lexeme) (t : Lexeme) : Type 0 where
  pub front : List Lexeme
  pub back : List Lexeme
  pub whole : tokens ≡ front ++ t ∷ back
  pub here : P front t back
  pub first : (before : List Lexeme) (u : Lexeme) (behind : List Lexeme) → tokens ≡ before ++ u ∷ behind
      → length before < length front → P before u behind → ⊥

-- No token is such a one.
abbrev pub IsNowhere : (List Lexeme → Lexeme → List Lexeme → Type 0) → List Lexeme → Type 0
IsNowhere P tokens = (before : List Lexeme) (u : Lexeme) (behind : List Lexeme) → tokens ≡ before ++ u ∷ behind → P before u behind → ⊥

-- The next token is this sign.
abbrev pub BeginsWith : List ℕ → List Lexeme → Type 0
BeginsWith text [] = ⊥
BeginsWith text (t ∷ tokens) = (t.kind ≡ kind.Sign) × (t.text ≡ text)

-- The last token is `class` or `define`.
abbrev pub NamesFollow : List Lexeme → Type 0
NamesFollow [] = ⊥
NamesFollow (t ∷ []) = (t.kind ≡ kind.Keyword) × ((t.text ≡ codes "class") ⊎ (t.text ≡ codes "define"))
NamesFollow (t ∷ u ∷ tokens) = NamesFollow (u ∷ tokens)

-- a FLOAT or a sign that is left out; a `*` before `=>`; a word before `(` that is no function and no name of a class or a defined type
pub data IsLeftOut (before : List Lexeme) (t : Lexeme) (behind : List Lexeme) : Type 0 where
  sign : t.kind ≡ kind.LeftOut → IsLeftOut before t behind
  float : t.kind ≡ kind.Float → IsLeftOut before t behind
  splat : t.kind ≡ kind.Sign → t.text ≡ codes "*" → BeginsWith (codes "=>") behind → IsLeftOut before t behind
  function : t.kind ≡ kind.Word → is_among functions t.text ≡ false → BeginsWith (codes "(") behind → (NamesFollow before → ⊥) → IsLeftOut before t behind
