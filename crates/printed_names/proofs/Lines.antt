-- What is printed of a name has no control character.
use Rattle.std.proofs.Common.{◌≡◌, inl, inr, ℕ, suc, ◌+◌, ◌/◌, ◌%◌, ◌<◌, ◌==◌, ◌||◌, Bool, true, false, true≢false, cond, List, [], ◌∷◌, ◌++◌, length, get_or, refl, sym, ap, ◌∙◌, arith, append-nil}
use Rattle.std.specs.Prelude.{nat_lt, encode_utf8, encode_utf8_all}
use Rattle.std.proofs.lemmas.Bool.{ltb-true, ne_eqb, eqb-true, or_cases}
use Rattle.std.proofs.lemmas.List.{append_assoc}
use Rattle.std.proofs.lemmas.Str.{inside_one, encodes-append, encodes-IsAscii}
use Rattle.std.proofs.lemmas.Str.Ascii.{IsAscii-cons}
use Rattle.printed_names.specs.Printed.{is_control, hex_digit, escaped, printed_byte, printed, HasNoControl}

-- ---- what is printed has no control character

-- a byte from the blank to the tilde is no control character
no_control_from : (b : ℕ) → 31 < b → b < 127 → is_control b ≡ false
no_control_from b low high = by (nat_lt b 32) refl
  where
    by : (t : Bool) → nat_lt b 32 ≡ t → (t || (b == 127)) ≡ false
    by true is = let less = ltb-true b 32 is in absurd (omega arith)
    by false is = ne_eqb b 127 (λ e. omega arith)

-- a hexadecimal digit is no control character
digit_from : (n : ℕ) → n < 16 → is_control (hex_digit n) ≡ false
digit_from n h = by (nat_lt n 10) refl
  where
    by : (t : Bool) → nat_lt n 10 ≡ t → is_control (cond t (48 + n) (87 + n)) ≡ false
    by true is = let less = ltb-true n 10 is in no_control_from (48 + n) (omega arith) (omega arith)
    by false is = no_control_from (87 + n) (omega arith) (omega arith)

-- a control character is below 128
small : (b : ℕ) → is_control b ≡ true → b < 128
small b h = elim (or_cases (nat_lt b 32) (b == 127) h) [ inl low ↦ omega (arith, ltb-true b 32 low) | inr last ↦ omega (arith, eqb-true b 127 last) ]

-- what is printed of a control character has none
escaped_has_none : (b : ℕ) → is_control b ≡ true → HasNoControl (escaped b)
escaped_has_none b h = let less = small b h in (refl, (refl, (digit_from (b / 16) (omega arith), (digit_from (b % 16) (omega arith), tt))))

-- and so has what is printed of any byte
byte_has_none : (b : ℕ) → HasNoControl (printed_byte b)
byte_has_none b = by (is_control b) refl
  where
    by : (t : Bool) → is_control b ≡ t → HasNoControl (cond t (escaped b) (b ∷ []))
    by true is = escaped_has_none b is
    by false is = (is, tt)

-- two texts without control characters have none together
both_have_none : (a b : List ℕ) → HasNoControl a → HasNoControl b → HasNoControl (a ++ b)
both_have_none [] b h k = k
both_have_none (x ∷ a) b h k = (h.0, both_have_none a b h.1 k)

-- what is printed of a name has no control character
pub has_none : (name : List ℕ) → HasNoControl (printed name)
has_none [] = tt
has_none (b ∷ name) = both_have_none (printed_byte b) (printed name) (byte_has_none b) (has_none name)

-- ---- what has none is printed as it is

-- a name without control characters is printed as it is
pub as_it_is : (name : List ℕ) → HasNoControl name → printed name ≡ name
as_it_is [] h = refl
as_it_is (b ∷ name) h = ap (λ t. cond t (escaped b) (b ∷ []) ++ printed name) h.0 ∙ ap (λ rest. b ∷ rest) (as_it_is name h.1)

-- ---- characters

-- each byte of a character's bytes below 128 is the character
high : (c : ℕ) (bytes : List ℕ) → ((k : ℕ) → k < length bytes → get_or bytes k 0 < 128 → c ≡ get_or bytes k 0) → is_control c ≡ false → HasNoControl bytes
high c [] own h = tt
high c (b ∷ bytes) own h = (first (is_control b) refl, high c bytes (λ k less low. own (suc k) (omega arith) low) h)
  where
    first : (t : Bool) → is_control b ≡ t → is_control b ≡ false
    first false is = is
    first true is = let same = own 0 (omega arith) (small b is) in absurd (true≢false (sym is ∙ (sym (ap is_control same) ∙ h)))

-- a character that isn't a control character is printed as it is
pub other_char : (c : ℕ) → is_control c ≡ false → printed (encode_utf8 c) ≡ encode_utf8 c
other_char c h = as_it_is (encode_utf8 c) (high c (encode_utf8 c) (λ k less low. inside_one c [] (encode_utf8 c) k (sym (append-nil (encode_utf8 c))) less low) h)

-- a character below 128 is one byte
one_byte : (c : ℕ) → c < 128 → encode_utf8 c ≡ c ∷ []
one_byte c h = sym (append-nil (encode_utf8 c)) ∙ encodes-IsAscii (c ∷ []) (IsAscii-cons c [] h (λ k. omega arith))

-- a control character is printed as its escape
pub control_char : (c : ℕ) → is_control c ≡ true → printed (encode_utf8 c) ≡ escaped c
control_char c h =
    ap printed (one_byte c (small c h)) ∙ (ap (λ t. cond t (escaped c) (c ∷ []) ++ []) h ∙ append-nil (escaped c))

-- a hexadecimal digit is below 128
digit_is_low : (n : ℕ) → n < 16 → hex_digit n < 128
digit_is_low n h = by (nat_lt n 10) refl
  where
    by : (t : Bool) → nat_lt n 10 ≡ t → cond t (48 + n) (87 + n) < 128
    by true is = omega arith
    by false is = omega arith

-- and is one byte
pub digit_byte : (n : ℕ) → n < 16 → encode_utf8 (hex_digit n) ≡ hex_digit n ∷ []
digit_byte n h = one_byte (hex_digit n) (digit_is_low n h)

-- ---- names

-- two names joined are printed one behind the other
printed_both : (a b : List ℕ) → printed (a ++ b) ≡ printed a ++ printed b
printed_both [] b = refl
printed_both (x ∷ a) b = ap (λ rest. printed_byte x ++ rest) (printed_both a b) ∙ sym (append_assoc (printed_byte x) (printed a) (printed b))

-- one character more
pub printed_more : (chars : List ℕ) (c : ℕ) → printed (encode_utf8_all (chars ++ c ∷ [])) ≡ printed (encode_utf8_all chars) ++ printed (encode_utf8 c)
printed_more chars c =
    ap printed (encodes-append chars (c ∷ []) ∙ ap (λ more. encode_utf8_all chars ++ more) (append-nil (encode_utf8 c)))
    ∙ printed_both (encode_utf8_all chars) (encode_utf8 c)
