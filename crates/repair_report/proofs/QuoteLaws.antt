-- Titles in quotes, character by character.
use Rattle.std.proofs.Common.{◌≡◌, ℕ, List, [], ◌∷◌, ◌++◌, ap, sym, ◌∙◌, append-nil}
use Rattle.std.proofs.lemmas.Grind.{flat_map-append}
use Rattle.std.proofs.lemmas.Str.{encodes-append}
use Rattle.std.specs.Prelude.{encode_utf8_all}
use Rattle.std.specs.List.{flat_map}
use Rattle.repair_report.specs.Lines.{escaped_char}

-- a title with one character more is escaped as the title and then the character
one_more : (text : List ℕ) (c : ℕ) → flat_map escaped_char (text ++ c ∷ []) ≡ flat_map escaped_char text ++ escaped_char c
one_more text c = flat_map-append escaped_char text (c ∷ []) ∙ ap (λ l. flat_map escaped_char text ++ l) (append-nil (escaped_char c))

-- and so are the bytes that are written of it
pub pushed : (old new text : List ℕ) (c : ℕ) → old ≡ encode_utf8_all (flat_map escaped_char text) → new ≡ old ++ encode_utf8_all (escaped_char c) → new ≡ encode_utf8_all (flat_map escaped_char (text ++ c ∷ []))
pushed old new text c before after =
    after ∙ ap (λ o. o ++ encode_utf8_all (escaped_char c)) before ∙ sym (encodes-append (flat_map escaped_char text) (escaped_char c)) ∙ sym (ap encode_utf8_all (one_more text c))
