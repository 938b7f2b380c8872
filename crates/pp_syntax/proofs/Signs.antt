-- Signs: what is read is one of the table, and what is one of the table is read, or more.
use Rattle.std.proofs.Common.{◌≡◌, ◌⊎◌, inl, inr, ℕ, ◌<◌, Bool, true, false, cond, ◌&&◌, ◌==◌, not, List, [], ◌∷◌, ◌++◌, length, Option, Some, None, refl, sym, ap, subst, ◌∙◌, arith}
use Rattle.std.specs.Str.{bytes_eq}
use Rattle.std.proofs.lemmas.Bool.{or_cases, and_parts, not-true}
use Rattle.std.proofs.lemmas.Slice.Eq.{bytes_eq-Decides}
use Rattle.pp_syntax.specs.declared.token.Kind.{Kind}
use Rattle.pp_syntax.specs.declared.token.Kind.TheVariants as kind
use Rattle.pp_syntax.specs.Bytes.{is_digit, is_upper}
use Rattle.pp_syntax.specs.declared.lexer.bytes.Style.TheVariants as style
use Rattle.pp_syntax.specs.Tokens.{begins, is_among, signs, left_out}
use Rattle.pp_syntax.specs.Scanning.{Found, sign_of, sign_found, or_else, scoped_or_sign, token_by, one_byte, two_bytes, three_bytes, sign}
use Rattle.pp_syntax.proofs.Steps.{Takes, Goes, goes_by}

-- the test passes for each text of a table
abbrev pub all_pass : (List ℕ → Bool) → List (List ℕ) → Bool
all_pass test [] = true
all_pass test (t ∷ texts) = test t && all_pass test texts

-- what holds of each text of a table holds of what is among them
pub of_each : (test : List ℕ → Bool) (texts : List (List ℕ)) (s : List ℕ) → all_pass test texts ≡ true → is_among texts s ≡ true → test s ≡ true
of_each test [] s all h = cc
of_each test (t ∷ texts) s all h = elim (or_cases (bytes_eq t s) (is_among texts s) h) [
  | inl e ↦ ap test (sym ((bytes_eq-Decides t s).0 e)) ∙ (and_parts (test t) (all_pass test texts) all).0
  | inr more ↦ of_each test texts s (and_parts (test t) (all_pass test texts) all).1 more
]

-- a sign of this language or one that it leaves out, as the kind tells
abbrev pub SignText : Kind → List ℕ → Type 0
SignText kind.Sign s = is_among signs s ≡ true
SignText kind.LeftOut s = is_among left_out s ≡ true
SignText _ s = ⊥

-- what the two tables tell of a text is so
sign_step : (s : List ℕ) (k : Kind) (v w : Bool) → is_among signs s ≡ v → is_among left_out s ≡ w → cond v (Some kind.Sign) (cond w (Some kind.LeftOut) None) ≡ Some k → SignText k s
sign_step s k true w a b h = let same : kind.Sign ≡ k = cc in subst (λ (j : Kind). SignText j s) same a
sign_step s k false true a b h = let same : kind.LeftOut ≡ k = cc in subst (λ (j : Kind). SignText j s) same b
sign_step s k false false a b h = cc

-- a text that is told to be a sign of a kind is
sign_is : (s : List ℕ) (k : Kind) → sign_of s ≡ Some k → SignText k s
sign_is s k h = sign_step s k (is_among signs s) (is_among left_out s) refl refl h

-- a sign that is found takes the text of a sign
found_takes : (s rest : List ℕ) (r : Option Kind) (x : Kind × List ℕ) → sign_of s ≡ r → sign_found rest r ≡ Some x → Takes (SignText x.0) (s ++ rest) x.1
found_takes s rest None x e h = cc
found_takes s rest (Some k) x e h =
    let same : ◌≡◌ {A = Kind × List ℕ} (k, rest) x = cc in
    subst (λ (y : Kind × List ℕ). Takes (SignText y.0) (s ++ rest) y.1) same (record { front = s; spelled = sign_is s k e; whole = refl })

-- so does one of one byte
one_takes : (text : List ℕ) (x : Kind × List ℕ) → one_byte text ≡ Some x → Takes (SignText x.0) text x.1
unfolding one_byte
one_takes [] x h = cc
one_takes (a ∷ rest) x h = found_takes (a ∷ []) rest (sign_of (a ∷ [])) x refl h

-- so does one of two bytes
two_takes : (text : List ℕ) (x : Kind × List ℕ) → two_bytes text ≡ Some x → Takes (SignText x.0) text x.1
unfolding two_bytes
two_takes [] x h = cc
two_takes (a ∷ []) x h = cc
two_takes (a ∷ b ∷ rest) x h = found_takes (a ∷ b ∷ []) rest (sign_of (a ∷ b ∷ [])) x refl h

-- so does one of three bytes
three_takes : (text : List ℕ) (x : Kind × List ℕ) → three_bytes text ≡ Some x → Takes (SignText x.0) text x.1
unfolding three_bytes
three_takes [] x h = cc
three_takes (a ∷ []) x h = cc
three_takes (a ∷ b ∷ []) x h = cc
three_takes (a ∷ b ∷ c ∷ rest) x h = found_takes (a ∷ b ∷ c ∷ []) rest (sign_of (a ∷ b ∷ c ∷ [])) x refl h

-- what is found by the first of two or the second is found by one of them, and not by the first if by the second
pub either_found : (f g : Found) (x : Kind × List ℕ) → or_else f g ≡ Some x → (f ≡ Some x) ⊎ ((f ≡ None) × (g ≡ Some x))
either_found None g x h = inr (refl, h)
either_found (Some y) g x h = inl h

-- what is found as a sign is one of the table
pub sign_takes : (text : List ℕ) (x : Kind × List ℕ) → sign text ≡ Some x → Takes (SignText x.0) text x.1
unfolding sign
sign_takes text x h = elim (either_found (three_bytes text) (or_else (two_bytes text) (one_byte text)) x h) [
  | inl e ↦ three_takes text x e
  | inr e ↦ elim (either_found (two_bytes text) (one_byte text) x e.1) [
    | inl f ↦ two_takes text x f
    | inr f ↦ one_takes text x f.1
  ]
]

-- ---- and again

-- no other token than a sign, or a name behind `::`, begins with this byte
abbrev pub sign_lead : ℕ → Bool
sign_lead a = not (begins style.Word a) && not (is_upper a) && not (a == 36) && not (is_digit a) && not (a == 39) && not (a == 34)

-- one byte to three, of which the first begins no other token, and no colon before others
abbrev pub is_sized : List ℕ → Bool
is_sized [] = false
is_sized (a ∷ []) = sign_lead a
is_sized (a ∷ b ∷ []) = sign_lead a && not (a == 58)
is_sized (a ∷ b ∷ c ∷ []) = sign_lead a && not (a == 58)
is_sized (a ∷ b ∷ c ∷ d ∷ s) = false

-- each sign of this language is such a text
pub sized_sign : (s : List ℕ) → is_among signs s ≡ true → is_sized s ≡ true
sized_sign s h = of_each is_sized signs s refl h

-- so is each that it leaves out
pub sized_left_out : (s : List ℕ) → is_among left_out s ≡ true → is_sized s ≡ true
sized_left_out s h = of_each is_sized left_out s refl h

-- a sign that is left out is none of this language
pub only_left_out : (s : List ℕ) → is_among left_out s ≡ true → is_among signs s ≡ false
only_left_out s h = not-true (is_among signs s) (of_each (λ t. not (is_among signs t)) left_out s refl h)

-- with such a first byte a token is a sign, or a name behind `::`
pub lead_by_sign : (a : ℕ) (text : List ℕ) → sign_lead a ≡ true → token_by a text ≡ scoped_or_sign (a ∷ text)
lead_by_sign a text h =
    let p = and_parts (not (begins style.Word a) && not (is_upper a) && not (a == 36) && not (is_digit a) && not (a == 39)) (not (a == 34)) h in
    let q = and_parts (not (begins style.Word a) && not (is_upper a) && not (a == 36) && not (is_digit a)) (not (a == 39)) p.0 in
    let r = and_parts (not (begins style.Word a) && not (is_upper a) && not (a == 36)) (not (is_digit a)) q.0 in
    let s = and_parts (not (begins style.Word a) && not (is_upper a)) (not (a == 36)) r.0 in
    let t = and_parts (not (begins style.Word a)) (not (is_upper a)) s.0 in
    rw (not-true (begins style.Word a) t.0, not-true (is_upper a) t.1, not-true (a == 36) s.1, not-true (is_digit a) r.1, not-true (a == 39) q.1, not-true (a == 34) p.1)

-- ---- fewer bytes are left

-- what is left behind a sign is what was there behind it
rest_is : (k : Kind) (r : Option Kind) (rest : List ℕ) (x : Kind × List ℕ) → sign_found rest r ≡ Some x → x.1 ≡ rest
rest_is k None rest x h = cc
rest_is k (Some j) rest x h = let same : ◌≡◌ {A = Kind × List ℕ} (j, rest) x = cc in sym (ap (λ (y : Kind × List ℕ). y.1) same)

-- a sign of three bytes leaves less than one of one byte
three_far : (a : ℕ) (r : List ℕ) (x : Kind × List ℕ) → three_bytes (a ∷ r) ≡ Some x → length x.1 < length r
unfolding three_bytes
three_far a [] x h = cc
three_far a (b ∷ []) x h = cc
three_far a (b ∷ c ∷ r) x h = omega (arith, ap length (rest_is kind.Sign (sign_of (a ∷ b ∷ c ∷ [])) r x h))

-- so does one of two
two_far : (a : ℕ) (r : List ℕ) (x : Kind × List ℕ) → two_bytes (a ∷ r) ≡ Some x → length x.1 < length r
unfolding two_bytes
two_far a [] x h = cc
two_far a (b ∷ r) x h = omega (arith, ap length (rest_is kind.Sign (sign_of (a ∷ b ∷ [])) r x h))

-- a sign of three bytes leaves less than one of two
three_further : (a b : ℕ) (r : List ℕ) (x : Kind × List ℕ) → three_bytes (a ∷ b ∷ r) ≡ Some x → length x.1 < length r
unfolding three_bytes
three_further a b [] x h = cc
three_further a b (c ∷ r) x h = omega (arith, ap length (rest_is kind.Sign (sign_of (a ∷ b ∷ c ∷ [])) r x h))

-- where the first choice only goes further, the second is enough
pub or_goes : (k : Kind) (r : List ℕ) (f g : Found) → ((x : Kind × List ℕ) → f ≡ Some x → length x.1 < length r) → Goes k r g → Goes k r (or_else f g)
or_goes k r None g far h = h
or_goes k r (Some x) g far h = (x, refl, inl (far x refl))

-- a text that is a sign is found as it
exactly : (k : Kind) (s r : List ℕ) → sign_of s ≡ Some k → Goes k r (sign_found r (sign_of s))
exactly k s r h = goes_by k r r (sign_found r (sign_of s)) (ap (sign_found r) h) (inr refl)

-- where the first choice goes to the end or further, so do both
first_goes : (k : Kind) (r : List ℕ) (f g : Found) → Goes k r f → Goes k r (or_else f g)
first_goes k r f g h = (h.0, ap (λ u. or_else u g) h.1, h.2)

-- each sign of the table is read, or something longer
pub sign_goes : (k : Kind) (s r : List ℕ) → is_sized s ≡ true → sign_of s ≡ Some k → Goes k r (sign (s ++ r))
unfolding sign one_byte two_bytes three_bytes
sign_goes k [] r z h = cc
sign_goes k (a ∷ []) r z h = or_goes k r (three_bytes (a ∷ r)) (or_else (two_bytes (a ∷ r)) (one_byte (a ∷ r))) (three_far a r) (or_goes k r (two_bytes (a ∷ r)) (one_byte (a ∷ r)) (two_far a r) (exactly k (a ∷ []) r h))
sign_goes k (a ∷ b ∷ []) r z h = or_goes k r (three_bytes (a ∷ b ∷ r)) (or_else (two_bytes (a ∷ b ∷ r)) (one_byte (a ∷ b ∷ r))) (three_further a b r) (first_goes k r (sign_found r (sign_of (a ∷ b ∷ []))) (one_byte (a ∷ b ∷ r)) (exactly k (a ∷ b ∷ []) r h))
sign_goes k (a ∷ b ∷ c ∷ []) r z h = first_goes k r (sign_found r (sign_of (a ∷ b ∷ c ∷ []))) (or_else (two_bytes (a ∷ b ∷ c ∷ r)) (one_byte (a ∷ b ∷ c ∷ r))) (exactly k (a ∷ b ∷ c ∷ []) r h)
sign_goes k (a ∷ b ∷ c ∷ d ∷ s) r z h = cc
