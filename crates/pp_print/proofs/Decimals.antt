-- A number that is written in decimal is read again.
use Rattle.std.proofs.Common.{◌≡◌, ℕ, zero, suc, ◌+◌, ◌-◌, ◌*◌, ◌/◌, ◌%◌, ◌^◌, ◌<◌, true, false, cond, ◌&&◌, ◌==◌, nat_le, List, [], ◌∷◌, ◌++◌, get_or, refl, sym, ap, subst, ◌∙◌, arith}
use Rattle.std.specs.Prelude.{decimal}
use Rattle.std.proofs.lemmas.Bool.{eqb-true, eqb-false, ne_eqb, lt-ltb, le-leb}
use Rattle.std.proofs.lemmas.Fmt.{first_decimal, decimal_by_steps}
use Rattle.std.specs.Fmt.{digits, digits_onto, digit_glyph}
use Rattle.pp_syntax.specs.Bytes.{is_digit}
use Rattle.pp_syntax.specs.Tokens as syntax
use Rattle.pp_syntax.specs.Tokens.{Of, IntText, digit_of, value_from, int_value, value_after_zero}

-- the digit that is written for a number below 10 stands for it
digit_back : (d : ℕ) → d < 10 → digit_of (digit_glyph false d) ≡ d
digit_back d h =
    ap (λ v. digit_of (cond v (48 + d) (87 + d))) (lt-ltb d 10 h)
    ∙ ap (λ v. cond v ((48 + d) - 48) (cond (nat_le (48 + d) 70) ((48 + d) - 55) ((48 + d) - 87))) (le-leb (48 + d) 57 (omega arith))
    ∙ omega arith

-- 10 to this power
abbrev power : ℕ → ℕ
power zero = 1
power (suc k) = 10 * power k

-- reading a digit adds it to ten times the number before
next_digit : (before n : ℕ) (acc : List ℕ) → value_from 10 before (digit_glyph false (n % 10) ∷ acc) ≡ value_from 10 (before * 10 + n % 10) acc
next_digit before n acc = ap (λ d. value_from 10 (before * 10 + d) acc) (digit_back (n % 10) (omega arith))

-- digits in front of others stand for the number before these
value_onto : (k n : ℕ) (acc : List ℕ) → n < power k → value_from 10 0 (digits_onto k 10 false n acc) ≡ value_from 10 n acc
value_onto zero n acc h = ap (λ m. value_from 10 m acc) (omega (arith, h))
value_onto (suc k) n acc h = elim (n / 10 == 0) as (λ v. (n / 10 == 0) ≡ v → value_from 10 0 (cond v (digit_glyph false (n % 10) ∷ acc) (digits_onto k 10 false (n / 10) (digit_glyph false (n % 10) ∷ acc))) ≡ value_from 10 n acc) [
  | true ↦ λ e. let f = eqb-true (n / 10) 0 e in next_digit 0 n acc ∙ ap (λ m. value_from 10 m acc) (omega (arith, f))
  | false ↦ λ e. value_onto k (n / 10) (digit_glyph false (n % 10) ∷ acc) (omega (arith, h)) ∙ next_digit (n / 10) n acc ∙ ap (λ m. value_from 10 m acc) (omega arith)
] refl

-- the digits of a number stand for it
value_all : (n : ℕ) → n < 2 ^ 63 → value_from 10 0 (decimal n) ≡ n
unfolding digits
value_all n h = value_onto 64 n [] (omega (arith, h))

-- where the first digit isn't 0, an INT is a decimal number
by_first : (s : List ℕ) → 48 < get_or s 0 0 → int_value s ≡ value_from 10 0 s
by_first [] h = absurd (omega arith)
by_first (b ∷ more) h = ap (λ v. cond v (value_after_zero more) (value_from 10 0 (b ∷ more))) (ne_eqb b 48 (λ e. absurd (omega (arith, e, h))))

-- 0 is written and read as 0
int_zero : (n : ℕ) → n ≡ 0 → int_value (decimal n) ≡ n
unfolding digits
int_zero n e = subst (λ m. int_value (decimal m) ≡ m) (sym e) refl

-- a number that fits 64 bits with a sign is read as it is written
pub int_decimal : (n : ℕ) → n < 2 ^ 63 → int_value (decimal n) ≡ n
int_decimal n h = elim (n == 0) as (λ v. (n == 0) ≡ v → int_value (decimal n) ≡ n) [
  | true ↦ λ e. int_zero n (eqb-true n 0 e)
  | false ↦ λ e. let f = eqb-false n 0 e in by_first (decimal n) (first_decimal n (omega (arith, f)) (omega (arith, h))) ∙ value_all n h
] refl

-- ---- a number in decimal is spelled as one

-- what is written for a digit is one
glyph_digit : (d : ℕ) → d < 10 → is_digit (48 + d) ≡ true
glyph_digit d h = ap (λ v. v && nat_le (48 + d) 57) (le-leb 48 (48 + d) (omega arith)) ∙ le-leb (48 + d) 57 (omega (arith, h))

-- digits with one more are digits
digit_behind : (ds : List ℕ) (b : ℕ) → Of is_digit ds → is_digit b ≡ true → Of is_digit (ds ++ b ∷ [])
digit_behind [] b h k = (k, tt)
digit_behind (c ∷ ds) b h k = (h.0, digit_behind ds b h.1 k)

-- a number in decimal is digits
all_digits : (n : ℕ) → n < 2 ^ 64 → Of is_digit (decimal n)
all_digits = decimal_by_steps (λ m ds. Of is_digit ds) (λ m l. (glyph_digit m l, tt)) (λ m ds l h. digit_behind ds (48 + m % 10) h (glyph_digit (m % 10) (omega arith)))

-- digits of which the first isn't 0 are an INT
by_first_digit : (s : List ℕ) → 48 < get_or s 0 0 → Of is_digit s → IntText s
by_first_digit [] h d = absurd (omega (arith, h))
by_first_digit (b ∷ more) h d = syntax.decimal b more refl (λ e. absurd (omega (arith, e, h))) d.0 d.1

-- 0 is written as an INT
zero_text : (n : ℕ) → n ≡ 0 → IntText (decimal n)
unfolding digits
zero_text n e = subst (λ m. IntText (decimal m)) (sym e) (syntax.only_zero refl)

-- a number that fits is written as an INT
pub decimal_int : (n : ℕ) → n < 2 ^ 63 → IntText (decimal n)
decimal_int n h = elim (n == 0) as (λ v. (n == 0) ≡ v → IntText (decimal n)) [
  | true ↦ λ e. zero_text n (eqb-true n 0 e)
  | false ↦ λ e. let f = eqb-false n 0 e in by_first_digit (decimal n) (first_decimal n (omega (arith, f)) (omega (arith, h))) (all_digits n (omega (arith, h)))
] refl
