-- Kinds with their capitals, character by character.
use Rattle.std.proofs.Common.{◌≡◌, ℕ, Bool, true, ◌==◌, List, [], ◌∷◌, ◌++◌, refl, ap, sym, ◌∙◌, append-nil}
use Rattle.std.proofs.lemmas.Str.{encodes-append}
use Rattle.std.specs.Prelude.{encode_utf8_all, encode_utf8}
use Rattle.pp_value.specs.Texts.{with_capitals, capital_if}

-- whether what stands behind these characters is a first one
abbrev pub first_behind : Bool → List ℕ → Bool
first_behind first [] = first
first_behind first (c ∷ text) = first_behind (c == 58) text

-- one character more is a capital where what stands behind the others is a first one
pub with_capitals-snoc : (first : Bool) (text : List ℕ) (c : ℕ) → with_capitals first (text ++ c ∷ []) ≡ with_capitals first text ++ capital_if (first_behind first text) c ∷ []
with_capitals-snoc first [] c = refl
with_capitals-snoc first (x ∷ text) c = ap (λ more. capital_if first x ∷ more) (with_capitals-snoc (x == 58) text c)

-- what stands behind a colon is a first one
pub first_behind-snoc : (first : Bool) (text : List ℕ) (c : ℕ) → first_behind first (text ++ c ∷ []) ≡ (c == 58)
first_behind-snoc first [] c = refl
first_behind-snoc first (x ∷ text) c = first_behind-snoc (x == 58) text c

-- one character is encoded as itself
encodes-one : (c : ℕ) → encode_utf8_all (c ∷ []) ≡ encode_utf8 c
encodes-one c = append-nil (encode_utf8 c)

-- a text with capitals goes on by one character, with a capital where that is a first one
pub pushed : (old new : List ℕ) (first : Bool) (text : List ℕ) (c capital : ℕ) → old ≡ encode_utf8_all (with_capitals true text) → first ≡ first_behind true text
    → capital ≡ capital_if first c → new ≡ old ++ encode_utf8 capital → new ≡ encode_utf8_all (with_capitals true (text ++ c ∷ []))
pushed old new first text c capital before is_first is_capital after =
    after ∙ ((λ i. before i ++ encode_utf8 (is_capital i)) ∙ ((λ i. encode_utf8_all (with_capitals true text) ++ encode_utf8 (capital_if (is_first i) c))
    ∙ ((λ i. encode_utf8_all (with_capitals true text) ++ sym (encodes-one (capital_if (first_behind true text) c)) i)
    ∙ (sym (encodes-append (with_capitals true text) (capital_if (first_behind true text) c ∷ [])) ∙ sym (ap encode_utf8_all (with_capitals-snoc true text c))))))
