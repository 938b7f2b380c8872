-- What lexing answers.
use Rattle.std.specs.Prelude.{◌≡◌, ◌≤◌, ◌<◌, ℕ, ◌+◌, ◌-◌, List, [], ◌∷◌, ◌++◌, length, map, take, drop, codes, IsUtf8, IsCharBoundary}
use Rattle.std.specs.List.{AllByRecursion}
use Rattle.std.specs.Str.{IsValidUpTo}
use Rattle.rh_base.specs.declared.fault.Refusal.{Refusal}
use Rattle.rh_base.specs.Refused.{IsRefusal}
use Rattle.pp_syntax.specs.declared.token.Token.{Token}
use Rattle.pp_syntax.specs.Tokens.{Lexeme}
use Rattle.pp_syntax.specs.Spelling.{FailsAt}

-- a token of the code, as definitions speak of it
abbrev pub lexeme_of : Token → Lexeme
lexeme_of t = record { kind = t.kind; text = t.text.now; at = t.at }

-- the tokens of the code, as definitions speak of them
abbrev pub lexemes_of : List Token → List Lexeme
lexemes_of tokens = map lexeme_of tokens

-- Each token's text stands in the source at its place.
abbrev pub AreSlices : List ℕ → List Lexeme → Type 0
AreSlices source tokens = AllByRecursion (λ t. take (length t.text) (drop t.at source) ≡ t.text) tokens

-- The tokens stand one behind the other, none before this place.
abbrev pub InOrder : ℕ → List Lexeme → Type 0
InOrder from [] = Unit {0}
InOrder from (t ∷ tokens) = (from ≤ t.at) × InOrder (t.at + length t.text) tokens

-- No token list is spelled, and this is the place.
abbrev pub IsLexicalRefusal : List ℕ → Refusal → Type 0
IsLexicalRefusal source r = (at : ℕ) × FailsAt source at × IsRefusal 11 at (codes "lexical") r

-- The text isn't UTF-8, and this is the length of its longest front that is.
abbrev pub IsTextRefusal : List ℕ → Refusal → Type 0
IsTextRefusal source r = (¬ (IsUtf8 source)) × (n : ℕ) × IsValidUpTo source n × IsRefusal 10 n (codes "utf8") r

-- A text is cut before what is left.
pub record Cut (text rest : List ℕ) : Type 0 where
  pub may : IsCharBoundary text (length text - length rest)
  pub whole : text ≡ take (length text - length rest) text ++ rest
  pub back : drop (length text - length rest) text ≡ rest
  pub shorter : length rest < length text
  pub size : length (take (length text - length rest) text) + length rest ≡ length text
