-- The value of text in double quotes, read and spelled.
use Rattle.std.proofs.Common.{◌≡◌, ◌≢◌, ℕ, ◌+◌, ◌*◌, ◌==◌, ◌≤◌, Bool, true, false, ◌&&◌, cond, List, [], ◌∷◌, ◌++◌, length, Option, Some, None, refl, sym, ap, subst, ◌∙◌, append_assoc, length-append, arith, eq-eqb}
use Rattle.std.specs.Prelude.{IsTrue, encode_utf8, not}
use Rattle.std.proofs.lemmas.Bool.{eqb-true, ne_eqb, eqb-false}
use Rattle.pp_syntax.specs.Bytes.{is_hex}
use Rattle.pp_syntax.specs.Tokens.{Of, digit_of, value_from, hex_value, is_scalar, is_simple_escape, NoEscape}
use Rattle.pp_syntax.specs.TokenValues.{DqOf, nothing, plain, escape, backslash, EscapeOf, simple, four, braced, simple_value}
use Rattle.pp_readers.specs.Values.{with_bytes, with_scalar, dq, dq_escaped, dq_unicode, dq_four, dq_braced}

-- a value with a front comes from a value without
bytes_some : (a : List ℕ) (r : Option (List ℕ)) (v : List ℕ) → with_bytes a r ≡ Some v → (w : List ℕ) × (r ≡ Some w) × (a ++ w ≡ v)
bytes_some a None v h = cc
bytes_some a (Some w) v h = (w, refl, cc)

-- a value with a character comes from one without, and the number is a character
scalar_some : (n : ℕ) (r : Option (List ℕ)) (v : List ℕ) → with_scalar n r ≡ Some v → (is_scalar n ≡ true) × (w : List ℕ) × (r ≡ Some w) × (encode_utf8 n ++ w ≡ v)
scalar_some n r v h = by_test (is_scalar n) refl h
  where
    by_test : (t : Bool) → is_scalar n ≡ t → cond t (with_bytes (encode_utf8 n) r) None ≡ Some v → (is_scalar n ≡ true) × (w : List ℕ) × (r ≡ Some w) × (encode_utf8 n ++ w ≡ v)
    by_test true p k = let b = bytes_some (encode_utf8 n) r v k in (p, b.0, b.1, b.2)
    by_test false p k = cc

-- true, as a fact
fact : (b : Bool) → b ≡ true → IsTrue b
fact b h = h

-- a fact is true
fact_is : (b : Bool) → IsTrue b → b ≡ true
fact_is b h = h

-- hexadecimal digits with one more are hexadecimal digits
of_snoc : (ds : List ℕ) (b : ℕ) → Of is_hex ds → is_hex b ≡ true → Of is_hex (ds ++ b ∷ [])
of_snoc [] b h t = (fact (is_hex b) t, tt)
of_snoc (d ∷ ds) b h t = (h.0, of_snoc ds b h.1 t)

-- one more digit makes the number 16 times as large, and adds the digit
value_snoc : (before : ℕ) (ds : List ℕ) (b : ℕ) → value_from 16 before (ds ++ b ∷ []) ≡ value_from 16 before ds * 16 + digit_of b
value_snoc before [] b = refl
value_snoc before (d ∷ ds) b = value_snoc (before * 16 + digit_of d) ds b

-- digits that were read, with their number and value
record Digits (ds : List ℕ) (count value : ℕ) : Type 0 where
  pub hex : Of is_hex ds
  pub count_is : length ds ≡ count
  pub value_is : hex_value ds ≡ value

-- with one more digit the count and the value go on
one_more : (ds : List ℕ) (count value b : ℕ) → Digits ds count value → is_hex b ≡ true → Digits (ds ++ b ∷ []) (count + 1) (value * 16 + digit_of b)
one_more ds count value b d t = record {
  hex = of_snoc ds b d.hex t;
  count_is = omega (arith, length-append ds (b ∷ []), d.count_is);
  value_is = value_snoc 0 ds b ∙ ap (λ v. v * 16 + digit_of b) d.value_is;
}

-- a byte in front of a rest is the last of the front
shift : (ds : List ℕ) (b : ℕ) (raw : List ℕ) → ds ++ b ∷ raw ≡ (ds ++ b ∷ []) ++ raw
shift ds b raw = sym (append_assoc ds (b ∷ []) raw)

-- text of which the first byte and what follows are read is spelled so, by whether it is a backslash
found_first : (b : ℕ) (raw v : List ℕ) (t : Bool) → (b == 92) ≡ t → cond t (dq_escaped raw) (with_bytes (b ∷ []) (dq raw)) ≡ Some v → ((w : List ℕ) → dq raw ≡ Some w → DqOf w raw) → (dq_escaped raw ≡ Some v → DqOf v (92 ∷ raw)) → DqOf v (b ∷ raw)
found_first b raw v true p h rec esc = subst (λ c. DqOf v (c ∷ raw)) (sym (eqb-true b 92 p)) (esc h)
found_first b raw v false p h rec esc = let a = bytes_some (b ∷ []) (dq raw) v h in plain b a.0 raw (sym a.2) refl (eqb-false b 92 p) (rec a.0 a.1)

-- what stands behind a backslash is spelled so, by what its first byte is
found_escape : (c : ℕ) (raw v : List ℕ) (t u : Bool) → is_simple_escape c ≡ t → (c == 117) ≡ u
    → cond t (with_bytes (simple_value c ∷ []) (dq raw)) (cond u (dq_unicode raw) (with_bytes (92 ∷ []) (with_bytes (c ∷ []) (dq raw)))) ≡ Some v
    → ((w : List ℕ) → dq raw ≡ Some w → DqOf w raw) → (dq_unicode raw ≡ Some v → DqOf v (92 ∷ 117 ∷ raw)) → DqOf v (92 ∷ c ∷ raw)
found_escape c raw v true u p q h rec uni =
    let a = bytes_some (simple_value c ∷ []) (dq raw) v h in
    escape (simple_value c ∷ []) a.0 (c ∷ []) raw (sym a.2) refl (simple c refl (fact (is_simple_escape c) p) refl) (rec a.0 a.1)
found_escape c raw v false true p q h rec uni = subst (λ d. DqOf v (92 ∷ d ∷ raw)) (sym (eqb-true c 117 q)) (uni h)
found_escape c raw v false false p q h rec uni =
    let a = bytes_some (92 ∷ []) (with_bytes (c ∷ []) (dq raw)) v h in
    let b = bytes_some (c ∷ []) (dq raw) a.0 a.1 in
    let no_backslash : c ≢ 92 = (λ e. let bad : true ≡ false = sym (ap is_simple_escape e) ∙ p in cc) in
    backslash (c ∷ b.0) (c ∷ raw) (sym a.2 ∙ ap (λ w. 92 ∷ w) (sym b.2)) refl (p, eqb-false c 117 q) (plain c b.0 raw refl refl no_backslash (rec b.0 b.1))

-- what stands behind `\u` is spelled so, by whether it is a brace
found_unicode : (b : ℕ) (raw v : List ℕ) (t u : Bool) → (b == 123) ≡ t → is_hex b ≡ u → cond t (dq_braced 0 0 raw) (cond u (dq_four 1 (digit_of b) raw) None) ≡ Some v
    → (dq_braced 0 0 raw ≡ Some v → DqOf v (92 ∷ 117 ∷ 123 ∷ raw)) → (is_hex b ≡ true → dq_four 1 (digit_of b) raw ≡ Some v → DqOf v (92 ∷ 117 ∷ b ∷ raw)) → DqOf v (92 ∷ 117 ∷ b ∷ raw)
found_unicode b raw v true u p q h br fo = subst (λ d. DqOf v (92 ∷ 117 ∷ d ∷ raw)) (sym (eqb-true b 123 p)) (br h)
found_unicode b raw v false true p q h br fo = fo q h
found_unicode b raw v false false p q h br fo = cc

-- what is read as four digits is spelled so, by whether this is the fourth
found_four : (count value b : ℕ) (ds raw v : List ℕ) (t u : Bool) → is_hex b ≡ t → (count == 3) ≡ u → Digits ds count value → count ≤ 3
    → cond t (cond u (with_scalar (value * 16 + digit_of b) (dq raw)) (dq_four (count + 1) (value * 16 + digit_of b) raw)) None ≡ Some v
    → ((w : List ℕ) → dq raw ≡ Some w → DqOf w raw) → (is_hex b ≡ true → count + 1 ≤ 3 → dq_four (count + 1) (value * 16 + digit_of b) raw ≡ Some v → DqOf v (92 ∷ 117 ∷ ((ds ++ b ∷ []) ++ raw)))
    → DqOf v (92 ∷ 117 ∷ ((ds ++ b ∷ []) ++ raw))
found_four count value b ds raw v true true p q d l h rec more =
    let s = scalar_some (value * 16 + digit_of b) (dq raw) v h in
    let e = one_more ds count value b d p in
    let three : count ≡ 3 = eqb-true count 3 q in
    let is : IsTrue (is_scalar (hex_value (ds ++ b ∷ []))) = fact (is_scalar (hex_value (ds ++ b ∷ []))) (ap is_scalar e.value_is ∙ s.0) in
    escape (encode_utf8 (value * 16 + digit_of b)) s.1 (117 ∷ (ds ++ b ∷ [])) raw (sym s.3) refl
    (four (ds ++ b ∷ []) refl (omega (arith, e.count_is)) e.hex is (ap encode_utf8 (sym e.value_is))) (rec s.1 s.2)
found_four count value b ds raw v true false p q d l h rec more = let n : count ≢ 3 = eqb-false count 3 q in more p (omega arith) h
found_four count value b ds raw v false u p q d l h rec more = cc

-- what is read as digits in braces is spelled so, by whether they end, and how many there are
found_braced : (count value b : ℕ) (ds raw v : List ℕ) (t z u s : Bool) → (b == 125) ≡ t → (count == 0) ≡ z → is_hex b ≡ u → (count == 6) ≡ s → Digits ds count value → count ≤ 6
    → cond t (cond z None (with_scalar value (dq raw))) (cond (u && not s) (dq_braced (count + 1) (value * 16 + digit_of b) raw) None) ≡ Some v
    → ((w : List ℕ) → dq raw ≡ Some w → DqOf w raw) → (is_hex b ≡ true → count + 1 ≤ 6 → dq_braced (count + 1) (value * 16 + digit_of b) raw ≡ Some v → DqOf v (92 ∷ 117 ∷ 123 ∷ (ds ++ b ∷ raw)))
    → DqOf v (92 ∷ 117 ∷ 123 ∷ (ds ++ b ∷ raw))
found_braced count value b ds raw v true true u s p q r m d l h rec more = cc
found_braced count value b ds raw v true false u s p q r m d l h rec more =
    let a = scalar_some value (dq raw) v h in
    let some : count ≢ 0 = eqb-false count 0 q in
    let is : IsTrue (is_scalar (hex_value ds)) = fact (is_scalar (hex_value ds)) (ap is_scalar d.value_is ∙ a.0) in
    escape (encode_utf8 value) a.1 (117 ∷ 123 ∷ (ds ++ 125 ∷ [])) raw (sym a.3) (ap (λ (c : ℕ). 92 ∷ 117 ∷ 123 ∷ (ds ++ c ∷ raw)) (eqb-true b 125 p) ∙ ap (λ u. 92 ∷ 117 ∷ 123 ∷ u) (shift ds 125 raw))
    (braced ds refl (omega (arith, d.count_is)) (omega (arith, d.count_is)) d.hex is (ap encode_utf8 (sym d.value_is))) (rec a.1 a.2)
found_braced count value b ds raw v false z true false p q r m d l h rec more = let n : count ≢ 6 = eqb-false count 6 m in more r (omega arith) h
found_braced count value b ds raw v false z true true p q r m d l h rec more = cc
found_braced count value b ds raw v false z false s p q r m d l h rec more = cc

mutual
  -- text in double quotes that has a value is spelled so
  pub dq_found : (raw v : List ℕ) → dq raw ≡ Some v → DqOf v raw
  dq_found [] v h = let e : [] ≡ v = cc in nothing (sym e) refl
  dq_found (b ∷ raw) v h = found_first b raw v (b == 92) refl h (λ w k. dq_found raw w k) (λ k. escaped_found raw v k)

  -- so is what stands behind a backslash
  escaped_found : (raw v : List ℕ) → dq_escaped raw ≡ Some v → DqOf v (92 ∷ raw)
  escaped_found [] v h = let e : 92 ∷ [] ≡ v = cc in backslash [] [] (sym e) refl tt (nothing refl refl)
  escaped_found (c ∷ raw) v h = found_escape c raw v (is_simple_escape c) (c == 117) refl refl h (λ w k. dq_found raw w k) (λ k. unicode_found raw v k)

  -- so is what stands behind `\u`
  unicode_found : (raw v : List ℕ) → dq_unicode raw ≡ Some v → DqOf v (92 ∷ 117 ∷ raw)
  unicode_found [] v h = cc
  unicode_found (b ∷ raw) v h = found_unicode b raw v (b == 123) (is_hex b) refl refl h (λ k. braced_found 0 0 [] raw v (record { hex = tt; count_is = refl; value_is = refl }) (omega arith) k)
      (λ t k. four_found 1 (digit_of b) (b ∷ []) raw v (record { hex = (fact (is_hex b) t, tt); count_is = refl; value_is = omega arith }) (omega arith) k)

  -- so is what goes on behind some of four digits
  four_found : (count value : ℕ) (ds raw v : List ℕ) → Digits ds count value → count ≤ 3 → dq_four count value raw ≡ Some v → DqOf v (92 ∷ 117 ∷ (ds ++ raw))
  four_found count value ds [] v d l h = cc
  four_found count value ds (b ∷ raw) v d l h = subst (λ r. DqOf v (92 ∷ 117 ∷ r)) (sym (shift ds b raw)) (found_four count value b ds raw v (is_hex b) (count == 3) refl refl d l h (λ w k. dq_found raw w k)
      (λ t k. four_found (count + 1) (value * 16 + digit_of b) (ds ++ b ∷ []) raw v (one_more ds count value b d t) k))

  -- so is what goes on behind some digits in braces
  braced_found : (count value : ℕ) (ds raw v : List ℕ) → Digits ds count value → count ≤ 6 → dq_braced count value raw ≡ Some v → DqOf v (92 ∷ 117 ∷ 123 ∷ (ds ++ raw))
  braced_found count value ds [] v d l h = cc
  braced_found count value ds (b ∷ raw) v d l h = found_braced count value b ds raw v (b == 125) (count == 0) (is_hex b) (count == 6) refl refl refl refl d l h (λ w k. dq_found raw w k)
      (λ t m k. subst (λ r. DqOf v (92 ∷ 117 ∷ 123 ∷ r)) (sym (shift ds b raw)) (braced_found (count + 1) (value * 16 + digit_of b) (ds ++ b ∷ []) raw v (one_more ds count value b d t) m k))

-- ---- and again

-- a hexadecimal digit is no opening brace
no_brace : (b : ℕ) → is_hex b ≡ true → (b == 123) ≡ false
no_brace b h = ne_eqb b 123 (λ e. let bad : true ≡ false = sym h ∙ ap is_hex e in cc)

-- and no closing brace
no_end : (b : ℕ) → is_hex b ≡ true → (b == 125) ≡ false
no_end b h = ne_eqb b 125 (λ e. let bad : true ≡ false = sym h ∙ ap is_hex e in cc)

-- digits in braces have the value of their character
braced_read : (count value : ℕ) (ds more : List ℕ) → Of is_hex ds → count + length ds ≤ 6 → 1 ≤ count + length ds → dq_braced count value (ds ++ 125 ∷ more) ≡ with_scalar (value_from 16 value ds) (dq more)
braced_read count value [] more h l m = ap (λ v. cond v None (with_scalar value (dq more))) (ne_eqb count 0 (λ e. omega arith))
braced_read count value (b ∷ ds) more h l m =
    let t = fact_is (is_hex b) h.0 in
    ap (λ v. cond v (cond (count == 0) None (with_scalar value (dq (ds ++ 125 ∷ more)))) (cond (is_hex b && not (count == 6)) (dq_braced (count + 1) (value * 16 + digit_of b) (ds ++ 125 ∷ more)) None)) (no_end b t)
    ∙ ap (λ v. cond (v && not (count == 6)) (dq_braced (count + 1) (value * 16 + digit_of b) (ds ++ 125 ∷ more)) None) t
    ∙ ap (λ v. cond (not v) (dq_braced (count + 1) (value * 16 + digit_of b) (ds ++ 125 ∷ more)) None) (ne_eqb count 6 (λ e. omega arith))
    ∙ braced_read (count + 1) (value * 16 + digit_of b) ds more h.1 (omega arith) (omega arith)

-- the rest of four digits has the value of their character
four_read : (count value : ℕ) (b : ℕ) (ds more : List ℕ) → is_hex b ≡ true → Of is_hex ds → count + (1 + length ds) ≡ 4 → dq_four count value (b ∷ (ds ++ more)) ≡ with_scalar (value_from 16 (value * 16 + digit_of b) ds) (dq more)
four_read count value b [] more t h l =
    ap (λ v. cond v (cond (count == 3) (with_scalar (value * 16 + digit_of b) (dq more)) (dq_four (count + 1) (value * 16 + digit_of b) more)) None) t
    ∙ ap (λ v. cond v (with_scalar (value * 16 + digit_of b) (dq more)) (dq_four (count + 1) (value * 16 + digit_of b) more)) (eq-eqb count 3 (omega arith))
four_read count value b (c ∷ ds) more t h l =
    ap (λ v. cond v (cond (count == 3) (with_scalar (value * 16 + digit_of b) (dq (c ∷ (ds ++ more)))) (dq_four (count + 1) (value * 16 + digit_of b) (c ∷ (ds ++ more)))) None) t
    ∙ ap (λ v. cond v (with_scalar (value * 16 + digit_of b) (dq (c ∷ (ds ++ more)))) (dq_four (count + 1) (value * 16 + digit_of b) (c ∷ (ds ++ more)))) (ne_eqb count 3 (λ e. omega arith))
    ∙ four_read (count + 1) (value * 16 + digit_of b) c ds more (fact_is (is_hex c) h.0) h.1 (omega arith)

-- one digit is the number of that digit
first_digit : (a : ℕ) → digit_of a ≡ 0 * 16 + digit_of a
first_digit a = omega arith

-- four digits behind `\u` have the value of their character
unicode_four : (ds more : List ℕ) → Of is_hex ds → length ds ≡ 4 → dq_unicode (ds ++ more) ≡ with_scalar (hex_value ds) (dq more)
unicode_four [] more h l = absurd (omega arith)
unicode_four (a ∷ []) more h l = absurd (omega arith)
unicode_four (a ∷ b ∷ ds) more h l =
    let t = fact_is (is_hex a) h.0 in
    ap (λ v. cond v (dq_braced 0 0 (b ∷ (ds ++ more))) (cond (is_hex a) (dq_four 1 (digit_of a) (b ∷ (ds ++ more))) None)) (no_brace a t)
    ∙ ap (λ v. cond v (dq_four 1 (digit_of a) (b ∷ (ds ++ more))) None) t
    ∙ four_read 1 (digit_of a) b ds more (fact_is (is_hex b) h.1.0) h.1.1 (omega arith)
    ∙ ap (λ x. with_scalar (value_from 16 (x * 16 + digit_of b) ds) (dq more)) (first_digit a)

-- an escape has the value that it stands for
escape_read : (here front more : List ℕ) (r : Option (List ℕ)) → EscapeOf here front → dq more ≡ r → dq_escaped (front ++ more) ≡ with_bytes here r
escape_read here front more r (simple c f s v) e =
    ap (λ u. dq_escaped (u ++ more)) f
    ∙ ap (λ t. cond t (with_bytes (simple_value c ∷ []) (dq more)) (cond (c == 117) (dq_unicode more) (with_bytes (92 ∷ []) (with_bytes (c ∷ []) (dq more))))) (fact_is (is_simple_escape c) s)
    ∙ ap (λ u. with_bytes u (dq more)) (sym v) ∙ ap (with_bytes here) e
escape_read here front more r (four ds f l h s v) e =
    ap (λ u. dq_escaped (u ++ more)) f ∙ unicode_four ds more h l ∙ ap (λ t. cond t (with_bytes (encode_utf8 (hex_value ds)) (dq more)) None) (fact_is (is_scalar (hex_value ds)) s)
    ∙ ap (λ u. with_bytes u (dq more)) (sym v) ∙ ap (with_bytes here) e
escape_read here front more r (braced ds f m l h s v) e =
    ap (λ u. dq_escaped (u ++ more)) f ∙ ap (λ u. dq_braced 0 0 u) (append_assoc ds (125 ∷ []) more) ∙ braced_read 0 0 ds more h (omega arith) (omega arith)
    ∙ ap (λ t. cond t (with_bytes (encode_utf8 (hex_value ds)) (dq more)) None) (fact_is (is_scalar (hex_value ds)) s)
    ∙ ap (λ u. with_bytes u (dq more)) (sym v) ∙ ap (with_bytes here) e

-- a backslash where no escape begins has itself for a value
backslash_read : (more rest : List ℕ) → NoEscape more → dq more ≡ Some rest → dq_escaped more ≡ Some (92 ∷ rest)
backslash_read [] rest n e = let s : [] ≡ rest = cc in ap (λ u. Some (92 ∷ u)) s
backslash_read (c ∷ more) rest n e =
    let no_backslash : (c == 92) ≡ false = ne_eqb c 92 (λ q. let bad : true ≡ false = sym (ap is_simple_escape q) ∙ n.0 in cc) in
    let body : with_bytes (c ∷ []) (dq more) ≡ Some rest = sym (ap (λ v. cond v (dq_escaped more) (with_bytes (c ∷ []) (dq more))) no_backslash) ∙ e in
    ap (λ t. cond t (with_bytes (simple_value c ∷ []) (dq more)) (cond (c == 117) (dq_unicode more) (with_bytes (92 ∷ []) (with_bytes (c ∷ []) (dq more))))) n.0
    ∙ ap (λ t. cond t (dq_unicode more) (with_bytes (92 ∷ []) (with_bytes (c ∷ []) (dq more)))) (ne_eqb c 117 n.1)
    ∙ ap (with_bytes (92 ∷ [])) body

-- a text that is spelled with a value has it
dq_spelled : {v raw : List ℕ} → DqOf v raw → dq raw ≡ Some v
dq_spelled {v} {raw} (nothing p q) = ap dq q ∙ ap Some (sym p)
dq_spelled {v} {raw} (plain b rest more p q n d) =
    ap dq q ∙ ap (λ t. cond t (dq_escaped more) (with_bytes (b ∷ []) (dq more))) (ne_eqb b 92 n) ∙ ap (with_bytes (b ∷ [])) (dq_spelled d) ∙ ap Some (sym p)
dq_spelled {v} {raw} (escape here rest front more p q e d) = ap dq q ∙ escape_read here front more (Some rest) e (dq_spelled d) ∙ ap Some (sym p)
dq_spelled {v} {raw} (backslash rest more p q n d) = ap dq q ∙ backslash_read more rest n (dq_spelled d) ∙ ap Some (sym p)

-- the same, with the text and the value named
pub dq_read : (raw v : List ℕ) → DqOf v raw → dq raw ≡ Some v
dq_read raw v d = dq_spelled d
