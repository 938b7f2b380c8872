-- Numbers: what is read is spelled, and what is spelled is read, or more.
use Rattle.std.proofs.Common.{◌≡◌, ◌⊎◌, inl, inr, ℕ, ◌<◌, Bool, true, false, cond, ◌||◌, ◌==◌, List, [], ◌∷◌, ◌++◌, length, Some, None, refl, sym, ap, subst, ◌∙◌, arith, append_assoc, length-append}
use Rattle.std.proofs.lemmas.Bool.{or_cases, eqb-true, eqb-false, ne_eqb}
use Rattle.std.proofs.lemmas.Bool.Decides.{nat_tests}
use Rattle.pp_syntax.specs.declared.token.Kind.{Kind}
use Rattle.pp_syntax.specs.declared.token.Kind.TheVariants as kind
use Rattle.pp_syntax.specs.Bytes.{is_digit, is_octal, is_hex}
use Rattle.pp_syntax.specs.Tokens.{Of, SomeOf, IntText, only_zero, decimal, octal, hexadecimal, FloatText}
use Rattle.pp_syntax.specs.Scanning.{after_all, digits_behind, fraction, hex_behind, unwrap_rest, after_zero, after_int, int_or_float, number}
use Rattle.pp_syntax.proofs.Steps.{Takes, takes_short, all_takes, all_append, Leaves, takes_leaves, Goes, goes_by, goes_far}

-- ---- digits

-- what is taken from where one byte of a set stands is one or more of the set
some_takes : (test : ℕ → Bool) (b : ℕ) (text : List ℕ) → test b ≡ true → Takes (SomeOf test) (b ∷ text) (after_all test text)
some_takes test b text e = let more = all_takes test text in record { front = b ∷ more.front; spelled = (e, more.spelled); whole = ap (λ t. b ∷ t) more.whole }

-- what is taken as digits is one digit or more
digits_behind_takes : (text rest : List ℕ) → digits_behind text ≡ Some rest → Takes (SomeOf is_digit) text rest
digits_behind_takes [] rest h = cc
digits_behind_takes (d ∷ text) rest h = elim (is_digit d) as (λ v. is_digit d ≡ v → cond v (Some (after_all is_digit text)) None ≡ Some rest → Takes (SomeOf is_digit) (d ∷ text) rest) [
  | true ↦ λ e k. let same : after_all is_digit text ≡ rest = cc in subst (λ (r : List ℕ). Takes (SomeOf is_digit) (d ∷ text) r) same (some_takes is_digit d text e)
  | false ↦ λ e k. cc
] refl h

-- what is taken as hexadecimal digits is one or more of them
hex_behind_takes : (text rest : List ℕ) → hex_behind text ≡ Some rest → Takes (SomeOf is_hex) text rest
hex_behind_takes [] rest h = cc
hex_behind_takes (d ∷ text) rest h = elim (is_hex d) as (λ v. is_hex d ≡ v → cond v (Some (after_all is_hex text)) None ≡ Some rest → Takes (SomeOf is_hex) (d ∷ text) rest) [
  | true ↦ λ e k. let same : after_all is_hex text ≡ rest = cc in subst (λ (r : List ℕ). Takes (SomeOf is_hex) (d ∷ text) r) same (some_takes is_hex d text e)
  | false ↦ λ e k. cc
] refl h

-- a dot and one digit or more
abbrev DotDigits : List ℕ → Type 0
DotDigits s = (digits : List ℕ) × (s ≡ 46 ∷ digits) × SomeOf is_digit digits

-- what is taken as a fraction is a dot and digits
fraction_takes : (text rest : List ℕ) → fraction text ≡ Some rest → Takes DotDigits text rest
fraction_takes [] rest h = cc
fraction_takes (b ∷ text) rest h = elim (b == 46) as (λ v. (b == 46) ≡ v → cond v (digits_behind text) None ≡ Some rest → Takes DotDigits (b ∷ text) rest) [
  | true ↦ λ e k.
      let t = digits_behind_takes text rest k in
      record { front = 46 ∷ t.front; spelled = (t.front, refl, t.spelled); whole = ap (λ c. c ∷ text) (eqb-true b 46 e) ∙ ap (λ u. 46 ∷ u) t.whole }
  | false ↦ λ e k. cc
] refl h

-- a fraction leaves less than there was
fraction_short : (text rest : List ℕ) → fraction text ≡ Some rest → length rest < length text
fraction_short text rest h = let t = fraction_takes text rest h in omega (arith, ap length t.whole, length-append t.front rest, ap length t.spelled.1)

-- ---- whole numbers

-- a zero and octal digits, or none, are an INT
octal_text : (s : List ℕ) → Of is_octal s → IntText (48 ∷ s)
octal_text [] h = only_zero refl
octal_text (c ∷ s) h = octal (c ∷ s) refl h

-- a zero alone is an INT
zero_takes : (text : List ℕ) → Takes IntText (48 ∷ text) text
zero_takes text = record { front = 48 ∷ []; spelled = only_zero refl; whole = refl }

-- a zero with `x` and hexadecimal digits is an INT; without the digits the zero alone is
hex_or_zero : (x : ℕ) (text : List ℕ) → (x ≡ 120) ⊎ (x ≡ 88) → Takes IntText (48 ∷ x ∷ text) (unwrap_rest (x ∷ text) (hex_behind text))
hex_or_zero x text h = elim (hex_behind text) as (λ r. hex_behind text ≡ r → Takes IntText (48 ∷ x ∷ text) (unwrap_rest (x ∷ text) r)) [
  | None ↦ λ e. zero_takes (x ∷ text)
  | Some rest ↦ λ e. let t = hex_behind_takes text rest e in record { front = 48 ∷ x ∷ t.front; spelled = hexadecimal x t.front refl h t.spelled; whole = ap (λ u. 48 ∷ x ∷ u) t.whole }
] refl

-- what is told to be `x` or `X` is
is_x : (x : ℕ) → ((x == 120) || (x == 88)) ≡ true → (x ≡ 120) ⊎ (x ≡ 88)
is_x x h = elim (or_cases (x == 120) (x == 88) h) [ inl e ↦ inl (eqb-true x 120 e) | inr e ↦ inr (eqb-true x 88 e) ]

-- what is taken from a zero on is an INT
behind_zero : (text : List ℕ) → Takes IntText (48 ∷ text) (after_zero text)
behind_zero [] = zero_takes []
behind_zero (x ∷ text) = elim ((x == 120) || (x == 88)) as (λ v. ((x == 120) || (x == 88)) ≡ v → Takes IntText (48 ∷ x ∷ text) (cond v (unwrap_rest (x ∷ text) (hex_behind text)) (after_all is_octal (x ∷ text)))) [
  | true ↦ λ e. hex_or_zero x text (is_x x e)
  | false ↦ λ e. let t = all_takes is_octal (x ∷ text) in record { front = 48 ∷ t.front; spelled = octal_text t.front t.spelled; whole = ap (λ u. 48 ∷ u) t.whole }
] refl

-- what is taken from a digit on is an INT
int_takes : (b : ℕ) (text : List ℕ) → is_digit b ≡ true → Takes IntText (b ∷ text) (after_int (b ∷ text))
int_takes b text d = elim (b == 48) as (λ v. (b == 48) ≡ v → Takes IntText (b ∷ text) (cond v (after_zero text) (after_all is_digit text))) [
  | true ↦ λ e. subst (λ c. Takes IntText (c ∷ text) (after_zero text)) (sym (eqb-true b 48 e)) (behind_zero text)
  | false ↦ λ e. let t = all_takes is_digit text in record { front = b ∷ t.front; spelled = decimal b t.front refl (eqb-false b 48 e) d t.spelled; whole = ap (λ u. b ∷ u) t.whole }
] refl

-- ---- both

-- the text of an INT or of a FLOAT, as the kind tells
abbrev pub NumberText : Kind → List ℕ → Type 0
NumberText kind.Int s = IntText s
NumberText kind.Float s = FloatText s
NumberText _ s = ⊥

-- digits and a fraction are a FLOAT
float_takes : (b : ℕ) (text rest : List ℕ) → is_digit b ≡ true → fraction (after_all is_digit text) ≡ Some rest → Takes FloatText (b ∷ text) rest
float_takes b text rest d h =
    let whole = all_takes is_digit text in
    let dot = fraction_takes (after_all is_digit text) rest h in
    record {
      front = (b ∷ whole.front) ++ dot.front;
      spelled = record { whole = b ∷ whole.front; fraction = dot.spelled.0; whole_digits = (d, whole.spelled); fraction_digits = dot.spelled.2; parts = ap (λ t. (b ∷ whole.front) ++ t) dot.spelled.1 };
      whole = ap (λ t. b ∷ t) (whole.whole ∙ ap (λ t. whole.front ++ t) dot.whole ∙ sym (append_assoc whole.front dot.front rest));
    }

-- what is found as a number by whether a fraction follows is spelled so
number_step : (b : ℕ) (text : List ℕ) (x : Kind × List ℕ) → is_digit b ≡ true → int_or_float (b ∷ text) (fraction (after_all is_digit text)) ≡ Some x → Takes (NumberText x.0) (b ∷ text) x.1
number_step b text x d h = elim (fraction (after_all is_digit text)) as (λ r. fraction (after_all is_digit text) ≡ r → int_or_float (b ∷ text) r ≡ Some x → Takes (NumberText x.0) (b ∷ text) x.1) [
  | None ↦ λ e k.
      let same : ◌≡◌ {A = Kind × List ℕ} (kind.Int, after_int (b ∷ text)) x = cc in
      subst (λ (y : Kind × List ℕ). Takes (NumberText y.0) (b ∷ text) y.1) same (int_takes b text d)
  | Some rest ↦ λ e k.
      let same : ◌≡◌ {A = Kind × List ℕ} (kind.Float, rest) x = cc in
      subst (λ (y : Kind × List ℕ). Takes (NumberText y.0) (b ∷ text) y.1) same (float_takes b text rest d e)
] refl h

-- what is found as a number is spelled so
pub number_takes : (b : ℕ) (text : List ℕ) (x : Kind × List ℕ) → is_digit b ≡ true → number (b ∷ text) ≡ Some x → Takes (NumberText x.0) (b ∷ text) x.1
unfolding number
number_takes b text x d h = number_step b text x d (sym (ap (λ v. int_or_float (b ∷ text) (fraction (cond v (after_all is_digit text) (b ∷ text)))) d) ∙ h)

-- ---- and again

-- an octal digit is a digit
octal_digit : (b : ℕ) → is_octal b ≡ true → is_digit b ≡ true
octal_digit b h = grind (arith, nat_tests)

-- octal digits are digits
octal_digits : (s : List ℕ) → Of is_octal s → Of is_digit s
octal_digits [] h = tt
octal_digits (b ∷ s) h = (octal_digit b h.0, octal_digits s h.1)

-- an octal digit is no `x`
octal_no_x : (b : ℕ) → is_octal b ≡ true → ((b == 120) || (b == 88)) ≡ false
octal_no_x b h = grind (arith, nat_tests)

-- reading hexadecimal digits behind an `x` leaves no more than there was
hex_leaves : (x : ℕ) (text : List ℕ) → Leaves (x ∷ text) (unwrap_rest (x ∷ text) (hex_behind text))
hex_leaves x text = elim (hex_behind text) as (λ r. hex_behind text ≡ r → Leaves (x ∷ text) (unwrap_rest (x ∷ text) r)) [
  | None ↦ λ e. inr refl
  | Some rest ↦ λ e. inl (omega (arith, takes_short (SomeOf is_hex) text rest (hex_behind_takes text rest e)))
] refl

-- reading behind a zero leaves no more than there was
zero_leaves : (r : List ℕ) → Leaves r (after_zero r)
zero_leaves [] = inr refl
zero_leaves (x ∷ text) = elim ((x == 120) || (x == 88)) as (λ v. Leaves (x ∷ text) (cond v (unwrap_rest (x ∷ text) (hex_behind text)) (after_all is_octal (x ∷ text)))) [
  | true ↦ hex_leaves x text
  | false ↦ takes_leaves (Of is_octal) (x ∷ text) (after_all is_octal (x ∷ text)) (all_takes is_octal (x ∷ text))
]

-- reading all bytes of a set goes to the end of a text over it, or further
all_leaves : (test : ℕ → Bool) (s r : List ℕ) → Of test s → Leaves r (after_all test (s ++ r))
all_leaves test s r h = subst (λ (t : List ℕ). Leaves r t) (sym (all_append test s r h)) (takes_leaves (Of test) r (after_all test r) (all_takes test r))

-- behind a zero, octal digits are read to their end or further
zero_octal : (s r : List ℕ) → SomeOf is_octal s → Leaves r (after_zero (s ++ r))
zero_octal [] r h = absurd h
zero_octal (c ∷ s) r h =
    subst (λ v. Leaves r (cond v (unwrap_rest (c ∷ s ++ r) (hex_behind (s ++ r))) (after_all is_octal (c ∷ s ++ r)))) (sym (octal_no_x c h.0)) (all_leaves is_octal (c ∷ s) r h)

-- `x` and `X` are told to be that
x_test : (x : ℕ) → (x ≡ 120) ⊎ (x ≡ 88) → ((x == 120) || (x == 88)) ≡ true
x_test x (inl e) = ap (λ y. (y == 120) || (y == 88)) e
x_test x (inr e) = ap (λ y. (y == 120) || (y == 88)) e

-- behind a zero, `x` and hexadecimal digits are read to their end or further
zero_hex : (x : ℕ) (s r : List ℕ) → (x ≡ 120) ⊎ (x ≡ 88) → SomeOf is_hex s → Leaves r (after_zero (x ∷ s ++ r))
zero_hex x [] r e h = absurd h
zero_hex x (d ∷ s) r e h =
    subst (λ v. Leaves r (cond v (unwrap_rest (x ∷ d ∷ s ++ r) (hex_behind (d ∷ s ++ r))) (after_all is_octal (x ∷ d ∷ s ++ r)))) (sym (x_test x e))
    (subst (λ v. Leaves r (unwrap_rest (x ∷ d ∷ s ++ r) (cond v (Some (after_all is_hex (s ++ r))) None))) (sym h.0) (all_leaves is_hex s r h.1))

-- an INT is read to its end or further
int_leaves : (s r : List ℕ) → IntText s → Leaves r (after_int (s ++ r))
int_leaves s r (only_zero e) = subst (λ (t : List ℕ). Leaves r (after_int (t ++ r))) (sym e) (zero_leaves r)
int_leaves s r (decimal b more e n d h) =
    subst (λ (t : List ℕ). Leaves r (after_int (t ++ r))) (sym e) (subst (λ v. Leaves r (cond v (after_zero (more ++ r)) (after_all is_digit (more ++ r)))) (sym (ne_eqb b 48 n)) (all_leaves is_digit more r h))
int_leaves s r (octal more e h) = subst (λ (t : List ℕ). Leaves r (after_int (t ++ r))) (sym e) (zero_octal more r h)
int_leaves s r (hexadecimal x more e is h) = subst (λ (t : List ℕ). Leaves r (after_int (t ++ r))) (sym e) (zero_hex x more r is h)

-- a fraction that is found behind digits ends behind what follows them
digits_fraction : (s r rest : List ℕ) → Of is_digit s → fraction (after_all is_digit (s ++ r)) ≡ Some rest → length rest < length r
digits_fraction s r rest h e =
    let f : fraction (after_all is_digit r) ≡ Some rest = sym (ap fraction (all_append is_digit s r h)) ∙ e in
    omega (arith, fraction_short (after_all is_digit r) rest f, takes_short (Of is_digit) r (after_all is_digit r) (all_takes is_digit r))

-- a fraction that is found behind the zero of a hexadecimal number ends behind what follows it
hex_fraction : (x : ℕ) (more r rest : List ℕ) → (x ≡ 120) ⊎ (x ≡ 88) → fraction (after_all is_digit (48 ∷ x ∷ more ++ r)) ≡ Some rest → length rest < length r
hex_fraction x more r rest (inl e) h = let none : None ≡ Some rest = subst (λ y. fraction (after_all is_digit (48 ∷ y ∷ more ++ r)) ≡ Some rest) e h in cc
hex_fraction x more r rest (inr e) h = let none : None ≡ Some rest = subst (λ y. fraction (after_all is_digit (48 ∷ y ∷ more ++ r)) ≡ Some rest) e h in cc

-- one or more octal digits are digits
some_digits : (s : List ℕ) → SomeOf is_octal s → Of is_digit s
some_digits [] h = absurd h
some_digits (b ∷ s) h = octal_digits (b ∷ s) h

-- What follows a whole number goes further, where it makes a FLOAT of it.
int_fraction : (s r rest : List ℕ) → IntText s → fraction (after_all is_digit (s ++ r)) ≡ Some rest → length rest < length r
int_fraction s r rest (only_zero e) h = digits_fraction s r rest (subst (λ (t : List ℕ). Of is_digit t) (sym e) (refl, tt)) h
int_fraction s r rest (decimal b more e n d m) h = digits_fraction s r rest (subst (λ (t : List ℕ). Of is_digit t) (sym e) (d, m)) h
int_fraction s r rest (octal more e m) h = digits_fraction s r rest (subst (λ (t : List ℕ). Of is_digit t) (sym e) (refl, some_digits more m)) h
int_fraction s r rest (hexadecimal x more e is m) h = hex_fraction x more r rest is (subst (λ (t : List ℕ). fraction (after_all is_digit (t ++ r)) ≡ Some rest) e h)

-- each INT is read, or something longer
pub int_goes : (s r : List ℕ) → IntText s → Goes kind.Int r (number (s ++ r))
unfolding number
int_goes s r h = elim (fraction (after_all is_digit (s ++ r))) as (λ v. fraction (after_all is_digit (s ++ r)) ≡ v → Goes kind.Int r (int_or_float (s ++ r) v)) [
  | None ↦ λ e. goes_by kind.Int r (after_int (s ++ r)) (int_or_float (s ++ r) None) refl (int_leaves s r h)
  | Some rest ↦ λ e. goes_far kind.Float kind.Int r rest (int_or_float (s ++ r) (Some rest)) refl (int_fraction s r rest h e)
] refl

-- one or more digits are read
digits_read : (digits r : List ℕ) → SomeOf is_digit digits → digits_behind (digits ++ r) ≡ Some (after_all is_digit r)
digits_read [] r h = absurd h
digits_read (d ∷ digits) r h = ap (λ v. cond v (Some (after_all is_digit (digits ++ r))) None) h.0 ∙ ap Some (all_append is_digit digits r h.1)

-- one or more bytes of a set are bytes of it
some_of : (test : ℕ → Bool) (s : List ℕ) → SomeOf test s → Of test s
some_of test [] h = absurd h
some_of test (b ∷ s) h = h

-- each FLOAT is read, or something longer
pub float_goes : (s r : List ℕ) → FloatText s → Goes kind.Float r (number (s ++ r))
unfolding number
float_goes s r h =
    let dot : List ℕ = 46 ∷ (h.fraction ++ r) in
    let text : s ++ r ≡ h.whole ++ dot = ap (λ t. t ++ r) h.parts ∙ append_assoc h.whole (46 ∷ h.fraction) r in
    let behind : after_all is_digit (s ++ r) ≡ dot = ap (after_all is_digit) text ∙ all_append is_digit h.whole dot (some_of is_digit h.whole h.whole_digits) in
    goes_by kind.Float r (after_all is_digit r) (number (s ++ r))
    (ap (λ t. int_or_float (s ++ r) (fraction t)) behind ∙ ap (int_or_float (s ++ r)) (digits_read h.fraction r h.fraction_digits))
    (takes_leaves (Of is_digit) r (after_all is_digit r) (all_takes is_digit r))

-- an INT begins with a digit
pub int_first : (s : List ℕ) → IntText s → (b : ℕ) × (more : List ℕ) × (s ≡ b ∷ more) × (is_digit b ≡ true)
int_first s (only_zero e) = (48, [], e, refl)
int_first s (decimal b more e n d h) = (b, more, e, d)
int_first s (octal more e h) = (48, more, e, refl)
int_first s (hexadecimal x more e is h) = (48, x ∷ more, e, refl)

-- digits and what is behind them begin with a digit
float_begins : (whole behind : List ℕ) → SomeOf is_digit whole → (b : ℕ) × (more : List ℕ) × (whole ++ behind ≡ b ∷ more) × (is_digit b ≡ true)
float_begins [] behind h = absurd h
float_begins (b ∷ whole) behind h = (b, whole ++ behind, refl, h.0)

-- a FLOAT begins with a digit
pub float_first : (s : List ℕ) → FloatText s → (b : ℕ) × (more : List ℕ) × (s ≡ b ∷ more) × (is_digit b ≡ true)
float_first s h = let f = float_begins h.whole (46 ∷ h.fraction) h.whole_digits in (f.0, f.1, h.parts ∙ f.2, f.3)
