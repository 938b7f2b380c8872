-- Escapes in double quotes, as the code takes them.
use Rattle.std.proofs.Common.{◌≡◌, ◌≢◌, ℕ, zero, suc, ◌+◌, ◌*◌, ◌==◌, ◌<◌, ◌≤◌, Bool, true, false, ◌&&◌, cond, List, [], ◌∷◌, ◌++◌, length, Option, Some, None, refl, sym, ap, subst, ◌∙◌, append_assoc, arith, eq-eqb}
use Rattle.std.specs.Prelude.{encode_utf8, not}
use Rattle.std.proofs.lemmas.Bool.{eqb-true, ne_eqb}
use Rattle.std.proofs.lemmas.Bool.Decides.{nat_tests}
use Rattle.std.proofs.lemmas.List.{append-nil}
use Rattle.std.proofs.lemmas.Str.{encode_ascii}
use Rattle.pp_syntax.specs.Bytes.{is_hex}
use Rattle.pp_syntax.specs.Tokens.{digit_of, is_scalar, is_simple_escape}
use Rattle.pp_syntax.specs.TokenValues.{simple_value}
use Rattle.pp_readers.specs.Values.{behind_byte, HasNoBackslash, NoAsciiFirst, with_bytes, with_scalar, dq, dq_escaped, dq_unicode, dq_four, dq_braced, hex_front, simple_front}

-- at this byte the code finds a digit where it is hexadecimal
pub hex_here : (text rest : List ℕ) (b : ℕ) → text ≡ b ∷ rest → hex_front text ≡ cond (is_hex b) (Some (digit_of b, rest)) None
hex_here text rest b e = ap hex_front e

-- a byte that isn't ASCII is no hexadecimal digit
no_hex_above : (b : ℕ) → 128 ≤ b → is_hex b ≡ false
no_hex_above b h = grind (arith, nat_tests)

-- where no ASCII byte stands first, the code finds no digit
pub hex_nowhere : (text : List ℕ) → NoAsciiFirst text → hex_front text ≡ None
hex_nowhere [] n = refl
hex_nowhere (b ∷ text) n = ap (λ v. cond v (Some (digit_of b, text)) None) (no_hex_above b n)

-- at this byte the code finds a simple escape where it is one
pub simple_here : (text rest : List ℕ) (c : ℕ) → text ≡ c ∷ rest → simple_front text ≡ cond (is_simple_escape c) (Some (simple_value c, rest)) None
simple_here text rest c e = ap simple_front e

-- a byte that isn't ASCII makes no simple escape
no_simple_above : (b : ℕ) → 128 ≤ b → is_simple_escape b ≡ false
no_simple_above b h = grind (arith, nat_tests)

-- where no ASCII byte stands first, the code finds no simple escape
pub simple_nowhere : (text : List ℕ) → NoAsciiFirst text → simple_front text ≡ None
simple_nowhere [] n = refl
simple_nowhere (b ∷ text) n = ap (λ v. cond v (Some (simple_value b, text)) None) (no_simple_above b n)

-- what a digit at the front is
hex_is : (text rest : List ℕ) (d : ℕ) → hex_front text ≡ Some (d, rest) → (b : ℕ) × (text ≡ b ∷ rest) × (is_hex b ≡ true) × (digit_of b ≡ d)
hex_is [] rest d h = cc
hex_is (b ∷ text) rest d h = by_test (is_hex b) refl h
  where
    by_test : (v : Bool) → is_hex b ≡ v → cond {A = Option (ℕ × List ℕ)} v (Some (digit_of b, text)) None ≡ Some (d, rest) → (c : ℕ) × (b ∷ text ≡ c ∷ rest) × (is_hex c ≡ true) × (digit_of c ≡ d)
    by_test true p k =
        let same : ◌≡◌ {A = ℕ × List ℕ} (digit_of b, text) (d, rest) = cc in
        (b, ap (λ (x : ℕ × List ℕ). b ∷ x.1) same, p, ap (λ (x : ℕ × List ℕ). x.0) same)
    by_test false p k = cc

-- where no digit is found, the first byte is none
hex_no : (b : ℕ) (text : List ℕ) → hex_front (b ∷ text) ≡ None → is_hex b ≡ false
hex_no b text h = by_test (is_hex b) h
  where
    by_test : (v : Bool) → cond {A = Option (ℕ × List ℕ)} v (Some (digit_of b, text)) None ≡ None → v ≡ false
    by_test true k = cc
    by_test false k = refl

-- what is found behind a byte stands behind it
pub behind_some : (c : ℕ) (text rest : List ℕ) → behind_byte c text ≡ Some rest → text ≡ c ∷ rest
behind_some c [] rest h = cc
behind_some c (b ∷ text) rest h = by_test (b == c) refl h
  where
    by_test : (v : Bool) → (b == c) ≡ v → cond v (Some text) None ≡ Some rest → b ∷ text ≡ c ∷ rest
    by_test true p k = let same : text ≡ rest = cc in ap (λ d. d ∷ text) (eqb-true b c p) ∙ ap (λ u. c ∷ u) same
    by_test false p k = cc

-- where that byte isn't found, the first is another
behind_no : (c b : ℕ) (text : List ℕ) → behind_byte c (b ∷ text) ≡ None → (b == c) ≡ false
behind_no c b text h = by_test (b == c) h
  where
    by_test : (v : Bool) → cond v (Some text) None ≡ None → v ≡ false
    by_test true k = cc
    by_test false k = refl

-- behind a digit less is left
pub hex_shorter : (text rest : List ℕ) (d : ℕ) → hex_front text ≡ Some (d, rest) → length rest < length text
hex_shorter text rest d h = let x = hex_is text rest d h in omega (arith, ap length x.1)

-- a hexadecimal digit is less than 16
pub hex_small : (text rest : List ℕ) (d : ℕ) → hex_front text ≡ Some (d, rest) → d < 16
hex_small text rest d h = let x = hex_is text rest d h in subst (λ n. n < 16) x.3 (digit_small x.0 x.2)
  where
    digit_small : (b : ℕ) → is_hex b ≡ true → digit_of b < 16
    digit_small b t = grind (arith, nat_tests)

-- behind a byte less is left
pub behind_shorter : (c : ℕ) (text rest : List ℕ) → behind_byte c text ≡ Some rest → length rest < length text
behind_shorter c text rest h = omega (arith, ap length (behind_some c text rest h))

-- ---- four digits

-- without a next digit, four digits have no value
pub four_none : (count value : ℕ) (text : List ℕ) → hex_front text ≡ None → dq_four count value text ≡ None
four_none count value [] h = refl
four_none count value (b ∷ text) h = ap (λ v. cond v (cond (count == 3) (with_scalar (value * 16 + digit_of b) (dq text)) (dq_four (count + 1) (value * 16 + digit_of b) text)) None) (hex_no b text h)

-- at a digit, four digits have the value of a character where it is the fourth, and go on where it isn't
four_step : (count value d : ℕ) (text rest : List ℕ) → hex_front text ≡ Some (d, rest) → dq_four count value text ≡ cond (count == 3) (with_scalar (value * 16 + d) (dq rest)) (dq_four (count + 1) (value * 16 + d) rest)
four_step count value d text rest h =
    let x = hex_is text rest d h in
    ap (dq_four count value) x.1 ∙ ap (λ v. cond v (cond (count == 3) (with_scalar (value * 16 + digit_of x.0) (dq rest)) (dq_four (count + 1) (value * 16 + digit_of x.0) rest)) None) x.2
    ∙ ap (λ n. cond (count == 3) (with_scalar (value * 16 + n) (dq rest)) (dq_four (count + 1) (value * 16 + n) rest)) x.3

-- the fourth digit makes a character
pub four_last : (count value d : ℕ) (text rest : List ℕ) → hex_front text ≡ Some (d, rest) → count ≡ 3 → is_scalar (value * 16 + d) ≡ true → dq_four count value text ≡ with_bytes (encode_utf8 (value * 16 + d)) (dq rest)
four_last count value d text rest h c s =
    four_step count value d text rest h ∙ ap (λ v. cond v (with_scalar (value * 16 + d) (dq rest)) (dq_four (count + 1) (value * 16 + d) rest)) (eq-eqb count 3 c)
    ∙ ap (λ v. cond v (with_bytes (encode_utf8 (value * 16 + d)) (dq rest)) None) s

-- four digits that tell no character have no value
pub four_bad : (count value d : ℕ) (text rest : List ℕ) → hex_front text ≡ Some (d, rest) → count ≡ 3 → is_scalar (value * 16 + d) ≡ false → dq_four count value text ≡ None
four_bad count value d text rest h c s =
    four_step count value d text rest h ∙ ap (λ v. cond v (with_scalar (value * 16 + d) (dq rest)) (dq_four (count + 1) (value * 16 + d) rest)) (eq-eqb count 3 c)
    ∙ ap (λ v. cond v (with_bytes (encode_utf8 (value * 16 + d)) (dq rest)) None) s

-- a digit before the fourth goes on
pub four_next : (count value d : ℕ) (text rest : List ℕ) → hex_front text ≡ Some (d, rest) → count ≢ 3 → dq_four count value text ≡ dq_four (count + 1) (value * 16 + d) rest
four_next count value d text rest h c =
    four_step count value d text rest h ∙ ap (λ v. cond v (with_scalar (value * 16 + d) (dq rest)) (dq_four (count + 1) (value * 16 + d) rest)) (ne_eqb count 3 c)

-- a number above the last character is none
no_scalar : (n : ℕ) → 1114111 < n → is_scalar n ≡ false
no_scalar n h = grind (arith, nat_tests)

-- digits behind so large a number have no value
pub four_large : (count value : ℕ) (text : List ℕ) → 1114111 < value → dq_four count value text ≡ None
four_large count value [] h = refl
four_large count value (b ∷ text) h = by_tests (is_hex b) (count == 3) (no_scalar (value * 16 + digit_of b) (omega arith)) (four_large (count + 1) (value * 16 + digit_of b) text (omega arith))
  where
    by_tests : (v t : Bool) → is_scalar (value * 16 + digit_of b) ≡ false → dq_four (count + 1) (value * 16 + digit_of b) text ≡ None
        → cond v (cond t (with_scalar (value * 16 + digit_of b) (dq text)) (dq_four (count + 1) (value * 16 + digit_of b) text)) None ≡ None
    by_tests true true s r = ap (λ v. cond v (with_bytes (encode_utf8 (value * 16 + digit_of b)) (dq text)) None) s
    by_tests true false s r = r
    by_tests false t s r = refl

-- ---- digits in braces

-- without a digit and a closing brace, digits in braces have no value
pub braced_none : (count value : ℕ) (text : List ℕ) → behind_byte 125 text ≡ None → hex_front text ≡ None → dq_braced count value text ≡ None
braced_none count value [] e h = refl
braced_none count value (b ∷ text) e h =
    ap (λ v. cond v (cond (count == 0) None (with_scalar value (dq text))) (cond (is_hex b && not (count == 6)) (dq_braced (count + 1) (value * 16 + digit_of b) text) None)) (behind_no 125 b text e)
    ∙ ap (λ v. cond (v && not (count == 6)) (dq_braced (count + 1) (value * 16 + digit_of b) text) None) (hex_no b text h)

-- braces without a digit have no value
pub braced_empty : (count value : ℕ) (text rest : List ℕ) → behind_byte 125 text ≡ Some rest → count ≡ 0 → dq_braced count value text ≡ None
braced_empty count value text rest h c = ap (dq_braced count value) (behind_some 125 text rest h) ∙ ap (λ v. cond v None (with_scalar value (dq rest))) (eq-eqb count 0 c)

-- a closing brace behind digits makes a character
pub braced_last : (count value : ℕ) (text rest : List ℕ) → behind_byte 125 text ≡ Some rest → count ≢ 0 → is_scalar value ≡ true → dq_braced count value text ≡ with_bytes (encode_utf8 value) (dq rest)
braced_last count value text rest h c s =
    ap (dq_braced count value) (behind_some 125 text rest h) ∙ ap (λ v. cond v None (with_scalar value (dq rest))) (ne_eqb count 0 c) ∙ ap (λ v. cond v (with_bytes (encode_utf8 value) (dq rest)) None) s

-- digits in braces that tell no character have no value
pub braced_bad : (count value : ℕ) (text rest : List ℕ) → behind_byte 125 text ≡ Some rest → count ≢ 0 → is_scalar value ≡ false → dq_braced count value text ≡ None
braced_bad count value text rest h c s =
    ap (dq_braced count value) (behind_some 125 text rest h) ∙ ap (λ v. cond v None (with_scalar value (dq rest))) (ne_eqb count 0 c) ∙ ap (λ v. cond v (with_bytes (encode_utf8 value) (dq rest)) None) s

-- a digit in braces goes on, unless it is the seventh
braced_step : (count value d : ℕ) (text rest : List ℕ) → behind_byte 125 text ≡ None → hex_front text ≡ Some (d, rest) → dq_braced count value text ≡ cond (not (count == 6)) (dq_braced (count + 1) (value * 16 + d) rest) None
braced_step count value d text rest e h =
    let x = hex_is text rest d h in
    let b = x.0 in
    let no_end : (b == 125) ≡ false = behind_no 125 b rest (sym (ap (behind_byte 125) x.1) ∙ e) in
    ap (dq_braced count value) x.1
    ∙ ap (λ v. cond v (cond (count == 0) None (with_scalar value (dq rest))) (cond (is_hex b && not (count == 6)) (dq_braced (count + 1) (value * 16 + digit_of b) rest) None)) no_end
    ∙ ap (λ v. cond (v && not (count == 6)) (dq_braced (count + 1) (value * 16 + digit_of b) rest) None) x.2
    ∙ ap (λ n. cond (not (count == 6)) (dq_braced (count + 1) (value * 16 + n) rest) None) x.3

-- seven digits in braces have no value
pub braced_seven : (count value d : ℕ) (text rest : List ℕ) → behind_byte 125 text ≡ None → hex_front text ≡ Some (d, rest) → count ≡ 6 → dq_braced count value text ≡ None
braced_seven count value d text rest e h c = braced_step count value d text rest e h ∙ ap (λ v. cond (not v) (dq_braced (count + 1) (value * 16 + d) rest) None) (eq-eqb count 6 c)

-- a digit before the seventh goes on
pub braced_next : (count value d : ℕ) (text rest : List ℕ) → behind_byte 125 text ≡ None → hex_front text ≡ Some (d, rest) → count ≢ 6 → dq_braced count value text ≡ dq_braced (count + 1) (value * 16 + d) rest
braced_next count value d text rest e h c = braced_step count value d text rest e h ∙ ap (λ v. cond (not v) (dq_braced (count + 1) (value * 16 + d) rest) None) (ne_eqb count 6 c)

-- digits in braces behind so large a number have no value
pub braced_large : (count value : ℕ) (text : List ℕ) → 1114111 < value → dq_braced count value text ≡ None
braced_large count value [] h = refl
braced_large count value (b ∷ text) h = by_tests (b == 125) (count == 0) (is_hex b && not (count == 6)) (no_scalar value h) (braced_large (count + 1) (value * 16 + digit_of b) text (omega arith))
  where
    by_tests : (v z t : Bool) → is_scalar value ≡ false → dq_braced (count + 1) (value * 16 + digit_of b) text ≡ None
        → cond v (cond z None (with_scalar value (dq text))) (cond t (dq_braced (count + 1) (value * 16 + digit_of b) text) None) ≡ None
    by_tests true true t s r = refl
    by_tests true false t s r = ap (λ v. cond v (with_bytes (encode_utf8 value) (dq text)) None) s
    by_tests false z true s r = r
    by_tests false z false s r = refl

-- ---- behind a backslash

-- `\u{` is an escape in braces
pub unicode_brace : (text rest : List ℕ) → behind_byte 123 text ≡ Some rest → dq_unicode text ≡ dq_braced 0 0 rest
unicode_brace text rest h = ap dq_unicode (behind_some 123 text rest h)

-- `\u` without a brace and without a digit has no value
pub unicode_none : (text : List ℕ) → behind_byte 123 text ≡ None → hex_front text ≡ None → dq_unicode text ≡ None
unicode_none [] e h = refl
unicode_none (b ∷ text) e h = ap (λ v. cond v (dq_braced 0 0 text) (cond (is_hex b) (dq_four 1 (digit_of b) text) None)) (behind_no 123 b text e) ∙ ap (λ v. cond v (dq_four 1 (digit_of b) text) None) (hex_no b text h)

-- `\u` and a digit are an escape of four digits
pub unicode_digit : (text rest : List ℕ) (d : ℕ) → behind_byte 123 text ≡ None → hex_front text ≡ Some (d, rest) → dq_unicode text ≡ dq_four 1 d rest
unicode_digit text rest d e h =
    let x = hex_is text rest d h in
    let no_brace : (x.0 == 123) ≡ false = behind_no 123 x.0 rest (sym (ap (behind_byte 123) x.1) ∙ e) in
    ap dq_unicode x.1 ∙ ap (λ v. cond v (dq_braced 0 0 rest) (cond (is_hex x.0) (dq_four 1 (digit_of x.0) rest) None)) no_brace ∙ ap (λ v. cond v (dq_four 1 (digit_of x.0) rest) None) x.2 ∙ ap (λ n. dq_four 1 n rest) x.3

-- a simple escape that is found is one, with its value
simple_is : (text rest : List ℕ) (d : ℕ) → simple_front text ≡ Some (d, rest) → (c : ℕ) × (text ≡ c ∷ rest) × (is_simple_escape c ≡ true) × (simple_value c ≡ d)
simple_is [] rest d h = cc
simple_is (b ∷ text) rest d h = by_test (is_simple_escape b) refl h
  where
    by_test : (v : Bool) → is_simple_escape b ≡ v → cond {A = Option (ℕ × List ℕ)} v (Some (simple_value b, text)) None ≡ Some (d, rest) → (c : ℕ) × (b ∷ text ≡ c ∷ rest) × (is_simple_escape c ≡ true) × (simple_value c ≡ d)
    by_test true p k =
        let same : ◌≡◌ {A = ℕ × List ℕ} (simple_value b, text) (d, rest) = cc in
        (b, ap (λ (x : ℕ × List ℕ). b ∷ x.1) same, p, ap (λ (x : ℕ × List ℕ). x.0) same)
    by_test false p k = cc

-- where no simple escape is found, the first byte makes none
simple_no : (b : ℕ) (text : List ℕ) → simple_front (b ∷ text) ≡ None → is_simple_escape b ≡ false
simple_no b text h = by_test (is_simple_escape b) h
  where
    by_test : (v : Bool) → cond {A = Option (ℕ × List ℕ)} v (Some (simple_value b, text)) None ≡ None → v ≡ false
    by_test true k = cc
    by_test false k = refl

-- behind a simple escape less is left
pub simple_shorter : (text rest : List ℕ) (d : ℕ) → simple_front text ≡ Some (d, rest) → length rest < length text
simple_shorter text rest d h = let x = simple_is text rest d h in omega (arith, ap length x.1)

-- the value of a simple escape is ASCII
simple_small : (c : ℕ) → is_simple_escape c ≡ true → simple_value c < 128
simple_small c h = by_size (Rattle.std.proofs.Common.nat_lt c 128) refl
  where
    by_size : (v : Bool) → Rattle.std.proofs.Common.nat_lt c 128 ≡ v → simple_value c < 128
    by_size true p = grind (arith, nat_tests)
    by_size false p = let bad : true ≡ false = sym h ∙ no_simple_above c (grind (arith, nat_tests)) in cc

-- a simple escape has its value, and the text goes on
pub escape_simple : (text rest : List ℕ) (d : ℕ) → simple_front text ≡ Some (d, rest) → dq_escaped text ≡ with_bytes (encode_utf8 d) (dq rest)
escape_simple text rest d h =
    let x = simple_is text rest d h in
    ap dq_escaped x.1
    ∙ ap (λ v. cond v (with_bytes (simple_value x.0 ∷ []) (dq rest)) (cond (x.0 == 117) (dq_unicode rest) (with_bytes (92 ∷ []) (with_bytes (x.0 ∷ []) (dq rest))))) x.2
    ∙ ap (λ u. with_bytes u (dq rest)) (sym (encode_ascii (simple_value x.0) (simple_small x.0 x.2))) ∙ ap (λ n. with_bytes (encode_utf8 n) (dq rest)) x.3

-- a `u` behind a backslash is a `\u`
pub escape_unicode : (text rest : List ℕ) → behind_byte 117 text ≡ Some rest → dq_escaped text ≡ dq_unicode rest
escape_unicode text rest h = ap dq_escaped (behind_some 117 text rest h)

-- where no escape begins, the backslash stands for itself, and the text goes on
pub escape_none : (text : List ℕ) → simple_front text ≡ None → behind_byte 117 text ≡ None → dq_escaped text ≡ with_bytes (encode_utf8 92) (dq text)
escape_none [] s e = ap (λ u. with_bytes u (Some [])) (sym (encode_ascii 92 (omega arith)))
escape_none (c ∷ text) s e =
    let no = simple_no c text s in
    let no_backslash : (c == 92) ≡ false = ne_eqb c 92 (λ q. let bad : true ≡ false = sym (ap is_simple_escape q) ∙ no in cc) in
    ap (λ v. cond v (with_bytes (simple_value c ∷ []) (dq text)) (cond (c == 117) (dq_unicode text) (with_bytes (92 ∷ []) (with_bytes (c ∷ []) (dq text))))) no
    ∙ ap (λ v. cond v (dq_unicode text) (with_bytes (92 ∷ []) (with_bytes (c ∷ []) (dq text)))) (behind_no 117 c text e)
    ∙ ap (with_bytes (92 ∷ [])) (sym (ap (λ v. cond v (dq_escaped text) (with_bytes (c ∷ []) (dq text))) no_backslash))
    ∙ ap (λ u. with_bytes u (dq (c ∷ text))) (sym (encode_ascii 92 (omega arith)))

-- ---- whole texts

-- two fronts of a value are one
bytes-append : (a b : List ℕ) (r : Option (List ℕ)) → with_bytes a (with_bytes b r) ≡ with_bytes (a ++ b) r
bytes-append a b None = refl
bytes-append a b (Some v) = ap Some (sym (append_assoc a b v))

-- what has no backslash stands for itself
pub dq-front : (a r : List ℕ) → HasNoBackslash a → dq (a ++ r) ≡ with_bytes a (dq r)
dq-front [] r n = empty (dq r)
  where
    empty : (x : Option (List ℕ)) → x ≡ with_bytes [] x
    empty None = refl
    empty (Some v) = refl
dq-front (b ∷ a) r n =
    ap (λ v. cond v (dq_escaped (a ++ r)) (with_bytes (b ∷ []) (dq (a ++ r)))) (ne_eqb b 92 (n 0 (omega arith)))
    ∙ ap (with_bytes (b ∷ [])) (dq-front a r (λ i h. n (suc i) (omega arith))) ∙ bytes-append (b ∷ []) a (dq r)

-- text without a backslash is the end of the value
pub dq_end : (v t : List ℕ) → HasNoBackslash t → with_bytes v (dq t) ≡ Some (v ++ t)
dq_end v t n = ap (λ u. with_bytes v (dq u)) (sym (append-nil t)) ∙ ap (with_bytes v) (dq-front t [] n) ∙ ap (λ u. Some (v ++ u)) (append-nil t)

-- a value goes on past a front and an escape
pub dq_escape : (v t a r more : List ℕ) (c : ℕ) → t ≡ a ++ 92 ∷ r → HasNoBackslash a → dq_escaped r ≡ with_bytes (encode_utf8 c) (dq more) → with_bytes v (dq t) ≡ with_bytes ((v ++ a) ++ encode_utf8 c) (dq more)
dq_escape v t a r more c e n esc =
    ap (λ u. with_bytes v (dq u)) e ∙ ap (with_bytes v) (dq-front a (92 ∷ r) n ∙ ap (with_bytes a) esc) ∙ bytes-append v a (with_bytes (encode_utf8 c) (dq more)) ∙ bytes-append (v ++ a) (encode_utf8 c) (dq more)

-- where an escape has no value, the text has none
pub dq_stops : (v t a r : List ℕ) → t ≡ a ++ 92 ∷ r → HasNoBackslash a → dq_escaped r ≡ None → with_bytes v (dq t) ≡ None
dq_stops v t a r e n esc = ap (λ u. with_bytes v (dq u)) e ∙ ap (with_bytes v) (dq-front a (92 ∷ r) n ∙ ap (with_bytes a) esc)
