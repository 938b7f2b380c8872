-- The first token behind an index.
use Rattle.std.proofs.Common.{◌≡◌, ℕ, zero, suc, ◌+◌, ◌<◌, List, [], ◌∷◌, length, drop, get_or, Some, ap, ◌∙◌, arith, add-one}
use Rattle.pp_syntax.specs.declared.token.Token.{Token}
use Rattle.pp_syntax.specs.Tokens.{Lexeme}
use Rattle.pp_syntax.specs.Lexing.{lexemes_of, lexeme_of}
use Rattle.pp_readers.specs.Marks.{Found, front_of}

-- the token at an index is the first behind it, and the others stand behind the next
front_suc : (ts : List Token) (i : ℕ) (t : Token) → i < length ts → t ≡ get_or ts i t → ◌≡◌ {A = Found Lexeme} (Some (lexeme_of t, drop (suc i) (lexemes_of ts))) (front_of (drop i (lexemes_of ts)))
front_suc [] i t h e = absurd (omega arith)
front_suc (s ∷ ts) zero t h e = ap (λ (s : Token). Some (lexeme_of s, lexemes_of ts)) e
front_suc (s ∷ ts) (suc i) t h e = front_suc ts i t (omega arith) e

-- the same with the next index as the code counts it
pub front_told : (ts : List Token) (i : ℕ) (t : Token) → i < length ts → t ≡ get_or ts i t → ◌≡◌ {A = Found Lexeme} (Some (lexeme_of t, drop (i + 1) (lexemes_of ts))) (front_of (drop i (lexemes_of ts)))
front_told ts i t h e = ap (λ k. Some (lexeme_of t, drop k (lexemes_of ts))) (add-one i) ∙ front_suc ts i t h e
