-- What is left behind the front of a text isn't longer than the text.
use Rattle.std.proofs.Common.{◌≡◌, ℕ, ◌≤◌, Bool, true, false, cond, List, [], ◌∷◌, length, refl, ap, ◌∙◌, arith}
use Rattle.std.specs.Prelude.{zero, suc, Some, None, drop}
use Rattle.pp_syntax.specs.Scanning.{after_all, text_from, unit_len, past_unit}

-- what is left behind one more byte isn't longer than the text
at_front : (v : Bool) (b : ℕ) (rest text : List ℕ) → length rest ≤ length text → length (cond v rest (b ∷ text)) ≤ length (b ∷ text)
at_front true b rest text h = omega arith
at_front false b rest text h = omega arith

-- what is left behind all bytes of a set isn't longer than the text
pub after_all_short : (test : ℕ → Bool) (text : List ℕ) → length (after_all test text) ≤ length text
after_all_short test [] = omega arith
after_all_short test (b ∷ text) = at_front (test b) b (after_all test text) text (after_all_short test text)

-- ---- text in double quotes

-- what is left behind text of which n bytes are an escape is what is left behind the text without them
pub skip : (n : ℕ) (text : List ℕ) → text_from n text ≡ text_from 0 (drop n text)
skip zero text = refl
skip (suc n) [] = refl
skip (suc n) (b ∷ text) = skip n text

-- text goes past a byte and what belongs to its escape
pub past_one : (b n : ℕ) (text : List ℕ) → unit_len b text ≡ Some n → text_from 0 (b ∷ text) ≡ text_from 0 (drop n text)
past_one b n text h = ap (past_unit (λ n. text_from n text) (b ∷ text)) h ∙ skip n text

-- text ends at a byte that ends it
pub stays : (b : ℕ) (text : List ℕ) → unit_len b text ≡ None → text_from 0 (b ∷ text) ≡ b ∷ text
stays b text h = ap (past_unit (λ n. text_from n text) (b ∷ text)) h
