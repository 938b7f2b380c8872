-- Sets of token lists, from which the rules of the grammar are built.
use Rattle.std.specs.Prelude.{◌≡◌, ◌⊎◌, ℕ, List, [], ◌∷◌, ◌++◌, codes}
use Rattle.pp_syntax.specs.declared.token.Kind.{Kind}
use Rattle.pp_syntax.specs.declared.token.Kind.TheVariants as kind
use Rattle.pp_syntax.specs.Tokens.{Lexeme}

-- tokens of the first, and then tokens of the second
infixr 6 ◌then◌
pub record ◌then◌ (A B : List Lexeme → Type 0) (tokens : List Lexeme) : Type 0 where
  pub front : List Lexeme
  pub back : List Lexeme
  pub first : A front
  pub second : B back
  pub whole : tokens ≡ front ++ back

-- no token
abbrev pub Nothing : List Lexeme → Type 0
Nothing tokens = tokens ≡ []

-- these tokens, or none
abbrev pub Maybe : (List Lexeme → Type 0) → List Lexeme → Type 0
Maybe A tokens = (tokens ≡ []) ⊎ A tokens

-- one token of this kind, with this text and place
abbrev pub Token : Kind → List ℕ → ℕ → List Lexeme → Type 0
Token k text at tokens = tokens ≡ record { kind = k; text = text; at = at } ∷ []

-- the same, wherever it stands
abbrev pub Some : Kind → List ℕ → List Lexeme → Type 0
Some k text tokens = (at : ℕ) × Token k text at tokens

-- this sign
abbrev pub Sign : List ℕ → List Lexeme → Type 0
Sign text = Some kind.Sign text

-- this keyword
abbrev pub Keyword : List ℕ → List Lexeme → Type 0
Keyword text = Some kind.Keyword text

-- the `[` directly behind what it indexes, and any other
abbrev pub Tight : List Lexeme → Type 0
Tight = Some kind.Tight (codes "[")

abbrev pub Loose : List Lexeme → Type 0
Loose = Some kind.Loose (codes "[")

abbrev pub Comma : List Lexeme → Type 0
Comma = Sign (codes ",")

-- where the first of these tokens stands
abbrev pub place_of : List Lexeme → ℕ
place_of [] = 0
place_of (t ∷ tokens) = t.at

-- each with this in front of it
abbrev pub Each : {X : Type 0} → (List Lexeme → Type 0) → (X → List Lexeme → Type 0) → List X → List Lexeme → Type 0
Each separator A [] = Nothing
Each separator A (x ∷ xs) = separator then A x then Each separator A xs

-- one or more, with this between them
abbrev pub Separated : {X : Type 0} → (List Lexeme → Type 0) → (X → List Lexeme → Type 0) → List X → List Lexeme → Type 0
Separated separator A [] tokens = ⊥
Separated separator A (x ∷ xs) tokens = (A x then Each separator A xs) tokens

-- one or more with commas between them, and there may be one at the end
abbrev pub Listed : {X : Type 0} → (X → List Lexeme → Type 0) → List X → List Lexeme → Type 0
Listed A xs = Separated Comma A xs then Maybe Comma

-- the same, or none
abbrev pub MaybeListed : {X : Type 0} → (X → List Lexeme → Type 0) → List X → List Lexeme → Type 0
MaybeListed A [] = Nothing
MaybeListed A (x ∷ xs) = Listed A (x ∷ xs)
