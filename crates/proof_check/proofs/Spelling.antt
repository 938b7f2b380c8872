-- The words of proof texts and what is read of them, both ways.
use Rattle.std.proofs.Common.{◌≡◌, ◌⊎◌, inl, inr, ℕ, zero, suc, ◌+◌, ◌*◌, ◌-◌, ◌^◌, ◌<◌, ◌≤◌, ◌==◌, nat_le, Bool, true, false, true≢false, ◌&&◌, List, [], ◌∷◌, ◌++◌, length, map, get_or, Option, Some, None, refl, sym, ap, ◌∙◌, subst, arith, if◌then◌else◌, decimal}
use Rattle.std.specs.List.{flat_map, AllByRecursion, All}
use Rattle.std.specs.Option.{option_map}
use Rattle.std.specs.Str.{bytes_eq}
use Rattle.std.specs.Prelude.{codes, nat_lt}
use Rattle.std.proofs.lemmas.List.{append-nil, append_assoc}
use Rattle.std.proofs.lemmas.Slice.Eq.{bytes_eq-Decides}
use Rattle.std.specs.Str.Parse.{AllDigits, digits_value, digits_value_after}
use Rattle.std.specs.Char.{digit_value}
use Rattle.std.proofs.Common.{eq-eqb, eqb-true, leb-true, ltb-true, le-leb, lt-ltb}
use Rattle.std.proofs.lemmas.Bool.{ne_eqb, cases_Bool, and_parts}
use Rattle.std.proofs.lemmas.Option.{none-some}
use Rattle.std.proofs.lemmas.Str.{digit_value_digit}
use Rattle.std.proofs.lemmas.Fmt.{decimal-digits_value, decimal_digit, decimal_is_IsNumeral, first_decimal}
use Rattle.std.proofs.lemmas.Str.Parse.{numerals_by_value, tells_digits, digit_at}
use Rattle.cnf.specs.declared.lit.Lit.{Lit}
use Rattle.cnf.specs.declared.log.Link.{Link}
use Rattle.cnf.specs.declared.log.Step.{Step}
use Rattle.cnf.specs.Literals.{HasVariable}
use Rattle.cnf.specs.Clauses.{HasVariables, clause_of}
use Rattle.cnf.specs.Formulas.{Formula}
use Rattle.cnf.specs.ProofText.{Word, lit_word, clause_words, step_words, link_words, chain_words}
use Rattle.proof_check.specs.Refuted.{Refutation}
use Rattle.proof_check.specs.ProofWords.{Written, block_words, IsWritten, IsLinkWritten, IsStepWritten, read_of, words_of, IsProofText}
use Rattle.proof_check.specs.WordsLeft.{words_left}
use Rattle.proof_check.proofs.WordLaws.{words_left-all}
use Rattle.proof_check.specs.Reading.{digits_behind, number_in}
use Rattle.rh_base.specs.Reading.{◌>>=◌}
use Rattle.proof_check.specs.WordReading.{Found, with_words, with_first, word_is, count_in, within, plain, unsigned_in, negative_in, signed, lits_or, lits_in, with_link, links_in, links_behind, clauses_in, formula_of, formula_in, step_in, steps_in, log_in, block_in, blocks_in, ended, proofs_in}
use Rattle.rh_base.proofs.Options.{bind_some}

-- ---- numbers

-- a value that is given where a test is true: the test is true, and it is that value
if_some : {X : Type 0} (b : Bool) (o : Option X) (m : X) → (if b then o else None) ≡ Some m → (b ≡ true) × (o ≡ Some m)
if_some true o m e = (refl, e)
if_some false o m e = absurd (none-some m e)

-- a value that is given where a test is false: the test is false, and it is that value
if_none : {X : Type 0} (b : Bool) (o : Option X) (m : X) → (if b then None else o) ≡ Some m → (b ≡ false) × (o ≡ Some m)
if_none true o m e = absurd (none-some m e)
if_none false o m e = (refl, e)

-- the number that was read, or 0
value_of : Option ℕ → ℕ
value_of None = 0
value_of (Some n) = n

-- the byte of a digit is below 10 as a digit, and adds to a number as in base 10
digit_read : (n c : ℕ) → 48 ≤ c → c ≤ 57 → (digit_value c < 10) × (10 * n + (c - 48) ≡ n * 10 + digit_value c)
digit_read n c a b = let k = digit_value_digit c (a, b) in (omega (arith, k), omega (arith, k))

-- what is read as a number is made of digits, has that value in base 10, and fits 63 bits
digits_spelled : (n : ℕ) (ds : List ℕ) (m : ℕ) → digits_behind n ds ≡ Some m → AllDigits 10 ds × (digits_value_after 10 n ds ≡ m) × (n < 2 ^ 63 → m < 2 ^ 63)
unfolding value_of
digits_spelled n [] m e = (tt, ap value_of e, λ l. omega (arith, ap value_of e))
digits_spelled n (c ∷ cs) m e =
    let (range, e2) = if_some _ _ m e in
    let (small, e3) = if_some _ _ m e2 in
    let (low, high) = and_parts _ _ range in
    let a : 48 ≤ c = leb-true _ _ low in
    let b : c ≤ 57 = leb-true _ _ high in
    let (digit, step) = digit_read n c a b in
    let r = digits_spelled (10 * n + (c - 48)) cs m e3 in
    ((digit, r.0), subst (λ x. digits_value_after 10 x cs ≡ m) step r.1, λ l. r.2 (ltb-true _ _ small))

-- 0 fits 63 bits
fits_none : 0 < 2 ^ 63
fits_none = omega arith

-- a word with a first byte isn't empty
some_bytes : (b : ℕ) (w : Word) → 0 < length (b ∷ w)
some_bytes b w = omega arith

-- a word that is read as a number is its decimal text
pub number_spelled : (w : Word) (m : ℕ) → number_in w ≡ Some m → w ≡ decimal m
number_spelled [] m e = absurd (none-some m e)
number_spelled (b ∷ []) m e =
    let s = digits_spelled 0 (b ∷ []) m e in
    let fits = s.2 (omega arith) in
    sym (decimal-digits_value (numerals_by_value _ tells_digits) (b ∷ []) s.0 (omega arith) (λ z. refl) (omega (arith, s.1))) ∙ ap decimal s.1
number_spelled (b ∷ d ∷ w) m e =
    let (other, e2) = if_none _ _ m e in
    let s = digits_spelled 0 (b ∷ d ∷ w) m e2 in
    let fits = s.2 fits_none in
    sym (decimal-digits_value (numerals_by_value _ tells_digits) (b ∷ d ∷ w) s.0 (some_bytes b (d ∷ w)) (λ z. absurd (true≢false (sym (eq-eqb b 48 z) ∙ other))) (omega (arith, s.1))) ∙ ap decimal s.1

-- what is read as a number fits 63 bits
pub number_fits : (w : Word) (m : ℕ) → number_in w ≡ Some m → m < 2 ^ 63
number_fits [] m e = absurd (none-some m e)
number_fits (b ∷ []) m e = (digits_spelled 0 (b ∷ []) m e).2 (omega arith)
number_fits (b ∷ d ∷ w) m e = (digits_spelled 0 (b ∷ d ∷ w) m (if_none _ _ m e).1).2 (omega arith)

-- the decimal text of 0 is the byte `0`
zero_word : (w : Word) (n : ℕ) → w ≡ decimal n → n ≡ 0 → w ≡ 48 ∷ []
zero_word w n e f = e ∙ decimal_digit n (omega (arith, f)) ∙ ap (λ k. (48 + k) ∷ []) f

-- more digits don't make a number smaller
value_grows : (n : ℕ) (ds : List ℕ) → n ≤ digits_value_after 10 n ds
value_grows n [] = omega arith
value_grows n (c ∷ cs) = omega (arith, value_grows (n * 10 + digit_value c) cs)

-- a byte with a digit's value is one from `0` to `9`
pub digit_range : (c : ℕ) → digit_value c < 10 → (48 ≤ c) × (c ≤ 57)
digit_range c h = digit_at (c ∷ []) 0 (h, tt) (omega arith)

-- digits whose value fits 63 bits are read as it
digits_read : (n : ℕ) (ds : List ℕ) → AllDigits 10 ds → digits_value_after 10 n ds < 2 ^ 63 → digits_behind n ds ≡ Some (digits_value_after 10 n ds)
digits_read n [] a h = refl
digits_read n (c ∷ cs) a h =
    let r = digit_range c a.0 in
    let d = digit_read n c r.0 r.1 in
    let small : 10 * n + (c - 48) < 2 ^ 63 = omega (arith, d.1, value_grows (n * 10 + digit_value c) cs) in
    ap (λ b. if b then (if nat_lt (10 * n + (c - 48)) (2 ^ 63) then digits_behind (10 * n + (c - 48)) cs else None) else None) (both (le-leb _ _ r.0) (le-leb _ _ r.1))
    ∙ ap (λ b. if b then digits_behind (10 * n + (c - 48)) cs else None) (lt-ltb _ _ small)
    ∙ ap (λ m. digits_behind m cs) d.1
    ∙ digits_read (n * 10 + digit_value c) cs a.1 h
  where
    both : {a b : Bool} → a ≡ true → b ≡ true → (a && b) ≡ true
    both {a} {b} p q = ap (λ t. t && b) p ∙ q

-- the digits of a number that fits are read as it
above_zero : (n : ℕ) → (n == 0) ≡ false → 0 < n
above_zero zero z = absurd (true≢false z)
above_zero (suc n) z = omega arith

-- the decimal text of a number that fits is read as it
pub number_read : (n : ℕ) → n < 2 ^ 63 → number_in (decimal n) ≡ Some n
number_read n h = by_digits (decimal n) refl
  where
    numeral : ((0 < length (decimal n)) × AllDigits 10 (decimal n)) × (digits_value 10 (decimal n) ≡ n)
    numeral = decimal_is_IsNumeral n (omega arith)

    read : (ds : List ℕ) → decimal n ≡ ds → digits_behind 0 ds ≡ Some n
    read ds e =
        let value : digits_value_after 10 0 ds ≡ n = subst (λ d. digits_value_after 10 0 d ≡ n) e numeral.1 in
        digits_read 0 ds (subst (AllDigits 10) e numeral.0.1) (omega (arith, value)) ∙ ap Some value

    by_digits : (ds : List ℕ) → decimal n ≡ ds → number_in ds ≡ Some n
    by_digits [] e = absurd (omega (arith, numeral.0.0, ap length e))
    by_digits (b ∷ []) e = read (b ∷ []) e
    by_digits (b ∷ d ∷ w) e = elim (cases_Bool (n == 0)) [
      | inl z ↦ absurd (let l = ap length (sym e ∙ zero_word (decimal n) n refl (eqb-true n 0 z)) in omega (arith, l))
      | inr z ↦
          let other : (b == 48) ≡ false = ne_eqb b 48 (λ q. let f = first_decimal n (above_zero n z) (omega arith) in
          let g : get_or (decimal n) 0 0 ≡ b = ap (λ l. get_or l 0 0) e in omega (arith, f, g, q)) in
          ap (λ t. if t then None else digits_behind 0 (b ∷ d ∷ w)) other ∙ read (b ∷ d ∷ w) e
    ]

-- ---- literals

-- a word that spells a literal of these variables; or the word 0
abbrev pub SpellsLit : ℕ → Word → Option Lit → Type 0
SpellsLit vars w None = w ≡ codes "0"
SpellsLit vars w (Some l) = (w ≡ lit_word l) × HasVariable vars l

-- a literal that is found among the variables has this number and sign, and one of these variables
within_found : (vars : ℕ) (p : Bool) (n : ℕ) (l : Lit) → within vars p n ≡ Some l → (l ≡ record { var = n; positive = p }) × (1 ≤ n) × (n ≤ vars)
within_found vars p n l h =
    let a = if_some (nat_le 1 n && nat_le n vars) (Some record { var = n; positive = p }) l h in
    let b = and_parts (nat_le 1 n) (nat_le n vars) a.0 in
    let same : ◌≡◌ {A = Lit} (record { var = n; positive = p }) l = cc in
    (sym same, leb-true _ _ b.0, leb-true _ _ b.1)

-- a mapped value comes from one that was there
mapped : {X Y : Type 0} (f : X → Y) (o : Option X) (y : Y) → option_map f o ≡ Some y → (x : X) × (o ≡ Some x) × (f x ≡ y)
mapped f None y h = absurd cc
mapped f (Some x) y h = (x, refl, cc)

-- a word without a sign that is read as a literal spells it
unsigned_found : (vars : ℕ) (w : Word) (o : Option Lit) → number_in w >>= plain vars ≡ Some o → SpellsLit vars w o
unsigned_found vars w o h = by_number (cases_Bool (n == 0))
  where
    found : (n : ℕ) × (number_in w ≡ Some n) × (plain vars n ≡ Some o)
    found = bind_some (number_in w) (plain vars) o h

    n : ℕ
    n = found.0

    zero_is : (n == 0) ≡ true → None ≡ o
    zero_is z =
        let same : ◌≡◌ {A = Option (Option Lit)} (Some None) (Some o) = ap (λ b. if b then Some None else option_map Some (within vars true n)) (sym z) ∙ found.2 in
        cc

    by_number : ((n == 0) ≡ true) ⊎ ((n == 0) ≡ false) → SpellsLit vars w o
    by_number (inl z) = subst (SpellsLit vars w) (zero_is z) (zero_word w n (number_spelled w n found.1) (eqb-true n 0 z))
    by_number (inr z) =
        let m = mapped Some (within vars true n) o (ap (λ b. if b then Some None else option_map Some (within vars true n)) (sym z) ∙ found.2) in
        let s = within_found vars true n m.0 m.1 in
        subst (SpellsLit vars w) m.2 (number_spelled w n found.1 ∙ ap lit_word (sym s.0), subst (HasVariable vars) (sym s.0) (s.1, s.2))

-- a word behind a `-` that is read as a literal spells it
negative_found : (vars : ℕ) (w : Word) (o : Option Lit) → (number_in w >>= λ n. option_map Some (within vars false n)) ≡ Some o → SpellsLit vars (45 ∷ w) o
negative_found vars w o h =
    let f = bind_some (number_in w) (λ n. option_map Some (within vars false n)) o h in
    let m = mapped Some (within vars false f.0) o f.2 in
    let s = within_found vars false f.0 m.0 m.1 in
    subst (SpellsLit vars (45 ∷ w)) m.2 (ap (λ u. 45 ∷ u) (number_spelled w f.0 f.1) ∙ ap lit_word (sym s.0), subst (HasVariable vars) (sym s.0) (s.1, s.2))

-- a word that is read as a literal, or as the word 0, spells it
signed_found : (vars : ℕ) (w : Word) (o : Option Lit) → signed vars w ≡ Some o → SpellsLit vars w o
signed_found vars [] o h = absurd cc
signed_found vars (b ∷ w) o h = by_sign (cases_Bool (b == 45))
  where
    by_sign : ((b == 45) ≡ true) ⊎ ((b == 45) ≡ false) → SpellsLit vars (b ∷ w) o
    by_sign (inl z) = subst (λ c. SpellsLit vars (c ∷ w) o) (sym (eqb-true b 45 z)) (negative_found vars w o (ap (λ t. if t then negative_in vars w else unsigned_in vars (b ∷ w)) (sym z) ∙ h))
    by_sign (inr z) = unsigned_found vars (b ∷ w) o (ap (λ t. if t then negative_in vars w else unsigned_in vars (b ∷ w)) (sym z) ∙ h)

-- a list that was found with one more in front comes from the list behind it
first_some : {X : Type 0} (x : X) (r : Found (List X)) (y : List X × List Word) → with_first x r ≡ Some y → (z : List X × List Word) × (r ≡ Some z) × ((x ∷ z.0, z.1) ≡ y)
first_some x None y h = absurd cc
first_some x (Some z) y h = (z, refl, cc)

-- ---- clauses

-- these words begin with the literals of a clause and a 0, over the variables
pub record SpellsLits (vars : ℕ) (ws : List Word) (x : List Lit × List Word) : Type 0 where
  pub words : ws ≡ clause_words x.0 ++ x.1
  pub valid : HasVariables vars x.0

-- literals that are read are what the words spell
pub lits_found : (vars : ℕ) (ws : List Word) (x : List Lit × List Word) → lits_in vars ws ≡ Some x → SpellsLits vars ws x
lits_found vars [] x h = absurd cc
lits_found vars (w ∷ ws) x h = by_lit (lits_found vars ws) (signed vars w) refl h
  where
    by_lit : ((x : List Lit × List Word) → lits_in vars ws ≡ Some x → SpellsLits vars ws x) → (o : Option (Option Lit)) → signed vars w ≡ o → lits_or o (lits_in vars ws) ws ≡ Some x → SpellsLits vars (w ∷ ws) x
    by_lit others None e k = absurd cc
    by_lit others (Some None) e k =
        let same : ◌≡◌ {A = List Lit × List Word} ([], ws) x = cc in
        subst (SpellsLits vars (w ∷ ws)) same (record { words = ap (λ v. v ∷ ws) (signed_found vars w None e); valid = tt })
    by_lit others (Some (Some l)) e k =
        let f = first_some l (lits_in vars ws) x k in
        let m = others f.0 f.1 in
        let s = signed_found vars w (Some l) e in
        subst (SpellsLits vars (w ∷ ws)) f.2 (record { words = ap (λ v. v ∷ ws) s.0 ∙ ap (λ vs. lit_word l ∷ vs) m.words; valid = (s.1, m.valid) })

-- literals that are read are over the variables
pub lits_valid : (vars : ℕ) (ws rest : List Word) (lits : List Lit) → lits_in vars ws ≡ Some (lits, rest) → HasVariables vars lits
lits_valid vars ws rest lits h = (lits_found vars ws (lits, rest) h).valid

-- the same, where the number of variables is told otherwise
pub lits_have : (vars n : ℕ) (ws rest : List Word) (lits : List Lit) → lits_in vars ws ≡ Some (lits, rest) → n ≡ vars → HasVariables n lits
lits_have vars n ws rest lits h e = subst (λ k. HasVariables k lits) (sym e) (lits_valid vars ws rest lits h)

-- what holds of all entries by recursion holds of each of them by its place
pub all_indexed : {X : Type 0} (P : X → Type 0) (xs : List X) → AllByRecursion P xs → All P xs
all_indexed P [] h k d l = absurd (omega arith)
all_indexed P (x ∷ xs) h zero d l = h.0
all_indexed P (x ∷ xs) h (suc k) d l = all_indexed P xs h.1 k d (omega arith)

-- a literal of the variables is found among them
within_read : (vars : ℕ) (l : Lit) → HasVariable vars l → within vars l.positive l.var ≡ Some l
within_read vars l h = ap (λ b. if b then Some l else None) (ap (λ b. b && nat_le l.var vars) (le-leb _ _ h.0) ∙ le-leb _ _ h.1)

-- the numbers of variables are small enough to be read
abbrev pub IsSmall : ℕ → Type 0
IsSmall vars = vars < 2 ^ 63

-- the decimal text of a number has no sign
no_minus : (w : Word) (n : ℕ) → n < 2 ^ 63 → w ≡ decimal n → (vars : ℕ) → signed vars w ≡ (number_in w >>= plain vars)
no_minus [] n h e vars = absurd (let d = decimal_is_IsNumeral n (omega arith) in omega (arith, d.0.0, ap length e))
no_minus (b ∷ w) n h e vars =
    let d = decimal_is_IsNumeral n (omega arith) in
    let a : AllDigits 10 (b ∷ w) = subst (AllDigits 10) (sym e) d.0.1 in
    let r = digit_range b a.0 in
    ap (λ t. if t then negative_in vars w else unsigned_in vars (b ∷ w)) (ne_eqb b 45 (λ q. omega (arith, r.0, q)))

-- the word of a literal is read as it
signed_read : (vars : ℕ) (l : Lit) → IsSmall vars → HasVariable vars l → signed vars (lit_word l) ≡ Some (Some l)
signed_read vars l small h = by_sign l.positive refl
  where
    fits : l.var < 2 ^ 63
    fits = omega (arith, h.0, h.1)

    by_sign : (p : Bool) → l.positive ≡ p → signed vars (lit_word l) ≡ Some (Some l)
    by_sign true e =
        ap (λ q. signed vars (if q then decimal l.var else 45 ∷ decimal l.var)) e
        ∙ no_minus (decimal l.var) l.var fits refl vars
        ∙ ap (λ r. r >>= plain vars) (number_read l.var fits)
        ∙ ap (λ b. if b then Some None else option_map Some (within vars true l.var)) (ne_eqb l.var 0 (λ z. omega (arith, h.0, z)))
        ∙ ap (λ q. option_map Some (within vars q l.var)) (sym e)
        ∙ ap (option_map Some) (within_read vars l h)
    by_sign false e =
        ap (λ q. signed vars (if q then decimal l.var else 45 ∷ decimal l.var)) e
        ∙ ap (λ r. r >>= λ n. option_map Some (within vars false n)) (number_read l.var fits)
        ∙ ap (λ q. option_map Some (within vars q l.var)) (sym e)
        ∙ ap (option_map Some) (within_read vars l h)

-- the word 0 is read as the end
zero_signed : (vars : ℕ) → signed vars (codes "0") ≡ Some None
zero_signed vars = refl

-- the words of a clause are read as its literals
pub lits_read : (vars : ℕ) (lits : List Lit) (rest : List Word) → IsSmall vars → HasVariables vars lits → lits_in vars (clause_words lits ++ rest) ≡ Some (lits, rest)
lits_read vars [] rest small h = ap (λ o. lits_or o (lits_in vars rest) rest) (zero_signed vars)
lits_read vars (l ∷ lits) rest small h =
    ap (λ o. lits_or o (lits_in vars (clause_words lits ++ rest)) (clause_words lits ++ rest)) (signed_read vars l small h.0)
    ∙ ap (with_first l) (lits_read vars lits rest small h.1)

-- ---- counts and fixed words

-- what is found with words behind it is found, and these are behind it
with_found : {X : Type 0} (ws : List Word) (o : Option X) (x : X × List Word) → with_words ws o ≡ Some x → (o ≡ Some x.0) × (ws ≡ x.1)
with_found ws None x h = absurd cc
with_found {X} ws (Some y) x h =
    let same : ◌≡◌ {A = X × List Word} (y, ws) x = cc in
    (ap (λ (p : X × List Word). Some p.0) same, ap (λ (p : X × List Word). p.1) same)

-- a number that is read is the first word's, in decimals, and fits 63 bits
count_found : (ws : List Word) (x : ℕ × List Word) → count_in ws ≡ Some x → (ws ≡ decimal x.0 ∷ x.1) × (x.0 < 2 ^ 63)
count_found [] x h = absurd cc
count_found (w ∷ ws) x h =
    let f = with_found ws (number_in w) x h in
    (ap (λ v. v ∷ ws) (number_spelled w x.0 f.0) ∙ ap (λ vs. decimal x.0 ∷ vs) f.1, number_fits w x.0 f.0)

-- the decimal text of a number is read as it
count_read : (n : ℕ) (rest : List Word) → n < 2 ^ 63 → count_in (decimal n ∷ rest) ≡ Some (n, rest)
count_read n rest h = ap (with_words rest) (number_read n h)

-- a fixed word that is read is the first one
word_found : (w : Word) (ws : List Word) (x : Unit {0} × List Word) → word_is w ws ≡ Some x → ws ≡ w ∷ x.1
word_found w [] x h = absurd cc
word_found w (v ∷ ws) x h =
    let f = if_some (bytes_eq v w) (Some (tt, ws)) x h in
    let same : ◌≡◌ {A = Unit {0} × List Word} (tt, ws) x = cc in
    ap (λ u. u ∷ ws) ((bytes_eq-Decides v w).0 f.0) ∙ ap (λ (p : Unit {0} × List Word). w ∷ p.1) same

-- ---- links

-- these words begin with links and a 0, whose numbers fit and whose pivots are over the variables
pub record SpellsLinks (vars : ℕ) (ws : List Word) (x : List Link × List Word) : Type 0 where
  pub words : ws ≡ flat_map link_words x.0 ++ (codes "0" ∷ x.1)
  pub valid : AllByRecursion (IsLinkWritten vars) x.0

-- behind a number other than 0
one_link : (vars n : ℕ) (w v : Word) (us : List Word) (x : List Link × List Word) (o : Option (Option Lit)) → ((x : List Link × List Word) → links_in vars us ≡ Some x → SpellsLinks vars us x)
    → number_in w ≡ Some n → (n == 0) ≡ false → signed vars v ≡ o → with_link n o (links_in vars us) ≡ Some x → SpellsLinks vars (w ∷ v ∷ us) x
one_link vars n w v us x None others e z s h = absurd cc
one_link vars n w v us x (Some None) others e z s h = absurd cc
one_link vars n w v us x (Some (Some l)) others e z s h =
    let f = first_some (record { number = n; pivot = l }) (links_in vars us) x h in
    let m = others f.0 f.1 in
    let g = signed_found vars v (Some l) s in
    subst (SpellsLinks vars (w ∷ v ∷ us)) f.2 (record {
      words = ap (λ t. t ∷ v ∷ us) (number_spelled w n e) ∙ ap (λ t. decimal n ∷ t ∷ us) g.0 ∙ ap (λ ts. decimal n ∷ lit_word l ∷ ts) m.words;
      valid = (record { low = above_zero n z; fits = number_fits w n e; pivot = g.1 }, m.valid);
    })

-- at the word 0 the links end
no_link : (vars n : ℕ) (w : Word) (ws : List Word) (x : List Link × List Word) → number_in w ≡ Some n → (n == 0) ≡ true → Some ([], ws) ≡ Some x → SpellsLinks vars (w ∷ ws) x
no_link vars n w ws x e z h =
    let same : ◌≡◌ {A = List Link × List Word} ([], ws) x = cc in
    subst (SpellsLinks vars (w ∷ ws)) same (record { words = ap (λ v. v ∷ ws) (zero_word w n (number_spelled w n e) (eqb-true n 0 z)); valid = tt })

mutual
  -- links that are read are what the words spell
  pub links_found : (vars : ℕ) (ws : List Word) (x : List Link × List Word) → links_in vars ws ≡ Some x → SpellsLinks vars ws x
  links_found vars [] x h = absurd cc
  links_found vars (w ∷ ws) x h = links_by vars (number_in w) w ws x refl h

  -- the same, by the number that the first word is read as
  links_by : (vars : ℕ) (o : Option ℕ) (w : Word) (ws : List Word) (x : List Link × List Word) → number_in w ≡ o → links_behind vars o ws ≡ Some x → SpellsLinks vars (w ∷ ws) x
  links_by vars None w [] x e h = absurd cc
  links_by vars None w (v ∷ us) x e h = absurd cc
  links_by vars (Some n) w [] x e h = elim (cases_Bool (n == 0)) [
    | inl z ↦ no_link vars n w [] x e z (ap (λ b. if b then Some ([], []) else None) (sym z) ∙ h)
    | inr z ↦ absurd (none-some x (ap (λ b. if b then Some ([], []) else None) (sym z) ∙ h))
  ]
  links_by vars (Some n) w (v ∷ us) x e h = elim (cases_Bool (n == 0)) [
    | inl z ↦ no_link vars n w (v ∷ us) x e z (ap (λ b. if b then Some ([], v ∷ us) else with_link n (signed vars v) (links_in vars us)) (sym z) ∙ h)
    | inr z ↦ one_link vars n w v us x (signed vars v) (links_found vars us) e z refl (ap (λ b. if b then Some ([], v ∷ us) else with_link n (signed vars v) (links_in vars us)) (sym z) ∙ h)
  ]

-- the words of links are read as them
pub links_read : (vars : ℕ) (links : List Link) (rest : List Word) → IsSmall vars → AllByRecursion (IsLinkWritten vars) links → links_in vars (flat_map link_words links ++ (codes "0" ∷ rest)) ≡ Some (links, rest)
links_read vars [] [] small h = refl
links_read vars [] (v ∷ rest) small h = refl
links_read vars (l ∷ links) rest small h =
    ap (λ o. links_behind vars o (lit_word l.pivot ∷ (flat_map link_words links ++ (codes "0" ∷ rest)))) (number_read l.number h.0.fits)
    ∙ ap (λ b. if b then Some ([], lit_word l.pivot ∷ (flat_map link_words links ++ (codes "0" ∷ rest))) else with_link l.number (signed vars (lit_word l.pivot)) (links_in vars (flat_map link_words links ++ (codes "0" ∷ rest))))
    (ne_eqb l.number 0 (λ z. omega (arith, h.0.low, z)))
    ∙ ap (λ o. with_link l.number o (links_in vars (flat_map link_words links ++ (codes "0" ∷ rest)))) (signed_read vars l.pivot small h.0.pivot)
    ∙ ap (with_first l) (links_read vars links rest small h.1)

-- the images of a list with one more entry are those from before and its image
pub map_more : {X Y : Type 0} (f : X → Y) (xs : List X) (x : X) → map f (xs ++ x ∷ []) ≡ map f xs ++ f x ∷ []
map_more f [] x = refl
map_more f (y ∷ xs) x = ap (λ l. f y ∷ l) (map_more f xs x)

-- ---- formulas

-- a formula's clauses as they are written, and as they are read
pub record SpellsClauses (vars many : ℕ) (ws : List Word) (x : List (List Lit) × List Word) : Type 0 where
  pub written : List (List Lit)
  pub words : ws ≡ flat_map clause_words written ++ x.1
  pub count : length written ≡ many
  pub valid : AllByRecursion (HasVariables vars) written
  pub read : x.0 ≡ map clause_of written

-- clauses that are read are what the words spell
pub clauses_found : (vars many : ℕ) (ws : List Word) (x : List (List Lit) × List Word) → clauses_in vars many ws ≡ Some x → SpellsClauses vars many ws x
clauses_found vars zero ws x h =
    let same : ◌≡◌ {A = List (List Lit) × List Word} ([], ws) x = cc in
    subst (SpellsClauses vars zero ws) same (record { written = []; words = refl; count = refl; valid = tt; read = refl })
clauses_found vars (suc n) ws x h =
    let a = bind_some (lits_in vars ws) (λ l. with_first (clause_of l.0) (clauses_in vars n l.1)) x h in
    let f = first_some (clause_of a.0.0) (clauses_in vars n a.0.1) x a.2 in
    let l = lits_found vars ws a.0 a.1 in
    let m = clauses_found vars n a.0.1 f.0 f.1 in
    subst (SpellsClauses vars (suc n) ws) f.2 (record {
      written = a.0.0 ∷ m.written;
      words = l.words ∙ ap (λ vs. clause_words a.0.0 ++ vs) m.words ∙ sym (append_assoc (clause_words a.0.0) (flat_map clause_words m.written) f.0.1);
      count = omega (arith, m.count);
      valid = (l.valid, m.valid);
      read = ap (λ cs. clause_of a.0.0 ∷ cs) m.read;
    })

-- the words of clauses are read as them, each in order and without repetition
pub clauses_read : (vars : ℕ) (written : List (List Lit)) (rest : List Word) → IsSmall vars → AllByRecursion (HasVariables vars) written
    → clauses_in vars (length written) (flat_map clause_words written ++ rest) ≡ Some (map clause_of written, rest)
clauses_read vars [] rest small h = refl
clauses_read vars (c ∷ written) rest small h =
    ap (λ ws. lits_in vars ws >>= λ x. with_first (clause_of x.0) (clauses_in vars (length written) x.1)) (append_assoc (clause_words c) (flat_map clause_words written) rest)
    ∙ ap (λ r. r >>= λ x. with_first (clause_of x.0) (clauses_in vars (length written) x.1)) (lits_read vars c (flat_map clause_words written ++ rest) small h.0)
    ∙ ap (with_first (clause_of c)) (clauses_read vars written rest small h.1)

-- these words begin with the words of a formula that is within bounds
pub record SpellsFormula (ws : List Word) (x : Formula × List Word) : Type 0 where
  pub written : List (List Lit)
  pub words : ws ≡ codes "p" ∷ codes "cnf" ∷ decimal x.0.vars ∷ decimal (length written) ∷ (flat_map clause_words written ++ x.1)
  pub small : x.0.vars ≤ 2 ^ 31
  pub short : length written < 2 ^ 63
  pub valid : AllByRecursion (HasVariables x.0.vars) written
  pub read : x.0 ≡ record { vars = x.0.vars; clauses = map clause_of written }

-- a formula that is read is what the words spell
pub formula_found : (ws : List Word) (x : Formula × List Word) → formula_in ws ≡ Some x → SpellsFormula ws x
unfolding formula_in
formula_found ws x h =
    let p = bind_some (word_is (codes "p") ws) _ x h in
    let c = bind_some (word_is (codes "cnf") p.0.1) _ x p.2 in
    let v = bind_some (count_in c.0.1) _ x c.2 in
    let n = bind_some (count_in v.0.1) _ x v.2 in
    let s = if_some (nat_le v.0.0 (2 ^ 31)) (formula_of v.0.0 n.0.0 n.0.1) x n.2 in
    let cs = bind_some (clauses_in v.0.0 n.0.0 n.0.1) (λ y. Some (record { vars = v.0.0; clauses = y.0 }, y.1)) x s.1 in
    let m = clauses_found v.0.0 n.0.0 n.0.1 cs.0 cs.1 in
    let same : ◌≡◌ {A = Formula × List Word} (record { vars = v.0.0; clauses = cs.0.0 }, cs.0.1) x = cc in
    let vars = count_found c.0.1 v.0 v.1 in
    let many = count_found v.0.1 n.0 n.1 in
    subst (SpellsFormula ws) same (record {
      written = m.written;
      words = word_found (codes "p") ws p.0 p.1 ∙ ap (λ us. codes "p" ∷ us) (word_found (codes "cnf") p.0.1 c.0 c.1 ∙ ap (λ us. codes "cnf" ∷ us) (vars.0
          ∙ ap (λ us. decimal v.0.0 ∷ us) (many.0 ∙ ap (λ k. decimal k ∷ n.0.1) (sym m.count) ∙ ap (λ us. decimal (length m.written) ∷ us) m.words)));
      small = leb-true _ _ s.0;
      short = omega (arith, m.count, many.1);
      valid = m.valid;
      read = ap (λ ys. record { vars = v.0.0; clauses = ys }) m.read;
    })

-- the words of a formula are read as it
pub formula_read : (vars : ℕ) (written : List (List Lit)) (rest : List Word) → vars ≤ 2 ^ 31 → length written < 2 ^ 63 → AllByRecursion (HasVariables vars) written
    → formula_in (codes "p" ∷ codes "cnf" ∷ decimal vars ∷ decimal (length written) ∷ (flat_map clause_words written ++ rest)) ≡ Some (record { vars = vars; clauses = map clause_of written }, rest)
unfolding formula_in
formula_read vars written rest small short h =
    ap (λ r. r >>= λ v. count_in v.1 >>= λ n. if nat_le v.0 (2 ^ 31) then formula_of v.0 n.0 n.1 else None) (count_read vars (decimal (length written) ∷ (flat_map clause_words written ++ rest)) (omega (arith, small)))
    ∙ ap (λ r. r >>= λ n. if nat_le vars (2 ^ 31) then formula_of vars n.0 n.1 else None) (count_read (length written) (flat_map clause_words written ++ rest) short)
    ∙ ap (λ b. if b then formula_of vars (length written) (flat_map clause_words written ++ rest) else None) (le-leb _ _ small)
    ∙ ap (λ r. r >>= λ y. Some (record { vars = vars; clauses = y.0 }, y.1)) (clauses_read vars written rest (omega (arith, small)) h)

-- ---- steps and logs

-- a step as it is read: its clause in order and without repetition
abbrev pub read_step : Step → Step
read_step s = record { clause = clause_of s.clause; start = s.start; chain = s.chain }

-- these words begin with the words of a step over the variables
pub record SpellsStep (vars : ℕ) (ws : List Word) (x : Step × List Word) : Type 0 where
  pub written : Step
  pub words : ws ≡ step_words written ++ x.1
  pub valid : IsStepWritten vars written
  pub read : x.0 ≡ read_step written

-- the parts of a step's words, one behind the other, are its words
step_text : (lits : List Lit) (start : ℕ) (chain : List Link) (rest : List Word)
    → clause_words lits ++ (decimal start ∷ (flat_map link_words chain ++ (codes "0" ∷ rest))) ≡ step_words (record { clause = lits; start = start; chain = chain }) ++ rest
step_text lits start chain rest =
    ap (λ us. clause_words lits ++ (decimal start ∷ us)) (sym (append_assoc (flat_map link_words chain) (codes "0" ∷ []) rest)) ∙ sym (append_assoc (clause_words lits) (chain_words start chain) rest)

-- a step that is read is what the words spell
pub step_found : (vars : ℕ) (ws : List Word) (x : Step × List Word) → step_in vars ws ≡ Some x → SpellsStep vars ws x
unfolding step_in
step_found vars ws x h =
    let l = bind_some (lits_in vars ws) _ x h in
    let n = bind_some (count_in l.0.1) _ x l.2 in
    let c = bind_some (links_in vars n.0.1) _ x n.2 in
    let same : ◌≡◌ {A = Step × List Word} (record { clause = clause_of l.0.0; start = n.0.0; chain = c.0.0 }, c.0.1) x = cc in
    let lits = lits_found vars ws l.0 l.1 in
    let start = count_found l.0.1 n.0 n.1 in
    let links = links_found vars n.0.1 c.0 c.1 in
    subst (SpellsStep vars ws) same (record {
      written = record { clause = l.0.0; start = n.0.0; chain = c.0.0 };
      words = lits.words ∙ ap (λ us. clause_words l.0.0 ++ us) (start.0 ∙ ap (λ us. decimal n.0.0 ∷ us) links.words) ∙ step_text l.0.0 n.0.0 c.0.0 c.0.1;
      valid = record { variables = lits.valid; fits = start.1; links = links.valid };
      read = refl;
    })

-- the words of a step are read as it
pub step_read : (vars : ℕ) (s : Step) (rest : List Word) → IsSmall vars → IsStepWritten vars s → step_in vars (step_words s ++ rest) ≡ Some (read_step s, rest)
unfolding step_in
step_read vars s rest small h =
    let tail : List Word = flat_map link_words s.chain ++ (codes "0" ∷ rest) in
    ap (λ ws. lits_in vars ws >>= λ l. count_in l.1 >>= λ n. links_in vars n.1 >>= λ c. Some (record { clause = clause_of l.0; start = n.0; chain = c.0 }, c.1)) (sym (step_text s.clause s.start s.chain rest))
    ∙ ap (λ r. r >>= λ l. count_in l.1 >>= λ n. links_in vars n.1 >>= λ c. Some (record { clause = clause_of l.0; start = n.0; chain = c.0 }, c.1)) (lits_read vars s.clause (decimal s.start ∷ tail) small h.variables)
    ∙ ap (λ r. r >>= λ n. links_in vars n.1 >>= λ c. Some (record { clause = clause_of s.clause; start = n.0; chain = c.0 }, c.1)) (count_read s.start tail h.fits)
    ∙ ap (λ r. r >>= λ c. Some (record { clause = clause_of s.clause; start = s.start; chain = c.0 }, c.1)) (links_read vars s.chain rest small h.links)

-- these words begin with the words of so many steps
pub record SpellsSteps (vars many : ℕ) (ws : List Word) (x : List Step × List Word) : Type 0 where
  pub written : List Step
  pub words : ws ≡ flat_map step_words written ++ x.1
  pub count : length written ≡ many
  pub valid : AllByRecursion (IsStepWritten vars) written
  pub read : x.0 ≡ map read_step written

-- steps that are read are what the words spell
pub steps_found : (vars many : ℕ) (ws : List Word) (x : List Step × List Word) → steps_in vars many ws ≡ Some x → SpellsSteps vars many ws x
steps_found vars zero ws x h =
    let same : ◌≡◌ {A = List Step × List Word} ([], ws) x = cc in
    subst (SpellsSteps vars zero ws) same (record { written = []; words = refl; count = refl; valid = tt; read = refl })
steps_found vars (suc n) ws x h =
    let a = bind_some (step_in vars ws) (λ l. with_first l.0 (steps_in vars n l.1)) x h in
    let f = first_some a.0.0 (steps_in vars n a.0.1) x a.2 in
    let l = step_found vars ws a.0 a.1 in
    let m = steps_found vars n a.0.1 f.0 f.1 in
    subst (SpellsSteps vars (suc n) ws) f.2 (record {
      written = l.written ∷ m.written;
      words = l.words ∙ ap (λ vs. step_words l.written ++ vs) m.words ∙ sym (append_assoc (step_words l.written) (flat_map step_words m.written) f.0.1);
      count = omega (arith, m.count);
      valid = (l.valid, m.valid);
      read = ap (λ s. s ∷ f.0.0) l.read ∙ ap (λ ss. read_step l.written ∷ ss) m.read;
    })

-- the words of steps are read as them
pub steps_read : (vars : ℕ) (written : List Step) (rest : List Word) → IsSmall vars → AllByRecursion (IsStepWritten vars) written
    → steps_in vars (length written) (flat_map step_words written ++ rest) ≡ Some (map read_step written, rest)
steps_read vars [] rest small h = refl
steps_read vars (s ∷ written) rest small h =
    ap (λ ws. step_in vars ws >>= λ x. with_first x.0 (steps_in vars (length written) x.1)) (append_assoc (step_words s) (flat_map step_words written) rest)
    ∙ ap (λ r. r >>= λ x. with_first x.0 (steps_in vars (length written) x.1)) (step_read vars s (flat_map step_words written ++ rest) small h.0)
    ∙ ap (with_first (read_step s)) (steps_read vars written rest small h.1)

-- these words begin with the words of a log
pub record SpellsLog (vars : ℕ) (ws : List Word) (x : List Step × List Word) : Type 0 where
  pub written : List Step
  pub words : ws ≡ codes "log" ∷ decimal (length written) ∷ (flat_map step_words written ++ x.1)
  pub short : length written < 2 ^ 63
  pub valid : AllByRecursion (IsStepWritten vars) written
  pub read : x.0 ≡ map read_step written

-- a log that is read is what the words spell
pub log_found : (vars : ℕ) (ws : List Word) (x : List Step × List Word) → log_in vars ws ≡ Some x → SpellsLog vars ws x
unfolding log_in
log_found vars ws x h =
    let p = bind_some (word_is (codes "log") ws) _ x h in
    let n = bind_some (count_in p.0.1) _ x p.2 in
    let m = steps_found vars n.0.0 n.0.1 x n.2 in
    let many = count_found p.0.1 n.0 n.1 in
    record {
      written = m.written;
      words = word_found (codes "log") ws p.0 p.1 ∙ ap (λ us. codes "log" ∷ us) (many.0 ∙ ap (λ k. decimal k ∷ n.0.1) (sym m.count) ∙ ap (λ us. decimal (length m.written) ∷ us) m.words);
      short = omega (arith, m.count, many.1);
      valid = m.valid;
      read = m.read;
    }

-- the words of a log are read as it
pub log_read : (vars : ℕ) (written : List Step) (rest : List Word) → IsSmall vars → length written < 2 ^ 63 → AllByRecursion (IsStepWritten vars) written
    → log_in vars (codes "log" ∷ decimal (length written) ∷ (flat_map step_words written ++ rest)) ≡ Some (map read_step written, rest)
unfolding log_in
log_read vars written rest small short h =
    ap (λ r. r >>= λ n. steps_in vars n.0 n.1) (count_read (length written) (flat_map step_words written ++ rest) short) ∙ steps_read vars written rest small h

-- ---- whole texts

-- these words begin with the words of a formula and its log
pub record SpellsBlock (ws : List Word) (x : Refutation × List Word) : Type 0 where
  pub written : Written
  pub words : ws ≡ block_words written ++ x.1
  pub valid : IsWritten written
  pub read : x.0 ≡ read_of written

-- the parts of the words of a formula and its log, one behind the other, are these words
block_text : (b : Written) (rest : List Word)
    → codes "p" ∷ codes "cnf" ∷ decimal b.vars ∷ decimal (length b.clauses) ∷ (flat_map clause_words b.clauses ++ (codes "log" ∷ decimal (length b.steps) ∷ (flat_map step_words b.steps ++ rest))) ≡ block_words b ++ rest
block_text b rest =
    ap (λ us. codes "p" ∷ codes "cnf" ∷ decimal b.vars ∷ decimal (length b.clauses) ∷ us) (sym (append_assoc (flat_map clause_words b.clauses) (codes "log" ∷ decimal (length b.steps) ∷ flat_map step_words b.steps) rest))

-- a formula and log that are read are what the words spell
pub block_found : (ws : List Word) (x : Refutation × List Word) → block_in ws ≡ Some x → SpellsBlock ws x
unfolding block_in
block_found ws x h =
    let f = bind_some (formula_in ws) _ x h in
    let l = bind_some (log_in f.0.0.vars f.0.1) _ x f.2 in
    let same : ◌≡◌ {A = Refutation × List Word} (record { formula = f.0.0; steps = l.0.0 }, l.0.1) x = cc in
    let formula = formula_found ws f.0 f.1 in
    let log = log_found f.0.0.vars f.0.1 l.0 l.1 in
    let b : Written = record { vars = f.0.0.vars; clauses = formula.written; steps = log.written } in
    subst (SpellsBlock ws) same (record {
      written = b;
      words = formula.words ∙ ap (λ us. codes "p" ∷ codes "cnf" ∷ decimal b.vars ∷ decimal (length b.clauses) ∷ (flat_map clause_words b.clauses ++ us)) log.words ∙ block_text b l.0.1;
      valid = record { small = formula.small; clause_count = formula.short; step_count = log.short; clauses = formula.valid; steps = log.valid };
      read = ap (λ (g : Formula). record { formula = g; steps = l.0.0 }) formula.read ∙ ap (λ ss. record { formula = record { vars = f.0.0.vars; clauses = map clause_of formula.written }; steps = ss }) log.read;
    })

-- the words of a formula and its log are read as them
pub block_read : (b : Written) (rest : List Word) → IsWritten b → block_in (block_words b ++ rest) ≡ Some (read_of b, rest)
unfolding block_in
block_read b rest h =
    let log : List Word = codes "log" ∷ decimal (length b.steps) ∷ (flat_map step_words b.steps ++ rest) in
    ap (λ ws. formula_in ws >>= λ f. log_in f.0.vars f.1 >>= λ l. Some (record { formula = f.0; steps = l.0 }, l.1)) (sym (block_text b rest))
    ∙ ap (λ r. r >>= λ f. log_in f.0.vars f.1 >>= λ l. Some (record { formula = f.0; steps = l.0 }, l.1)) (formula_read b.vars b.clauses log h.small (omega (arith, h.clause_count)) h.clauses)
    ∙ ap (λ r. r >>= λ l. Some (record { formula = record { vars = b.vars; clauses = map clause_of b.clauses }; steps = l.0 }, l.1)) (log_read b.vars b.steps rest (omega (arith, h.small)) (omega (arith, h.step_count)) h.steps)

-- these words begin with the words of so many formulas with their logs
pub record SpellsBlocks (many : ℕ) (ws : List Word) (x : List Refutation × List Word) : Type 0 where
  pub written : List Written
  pub words : ws ≡ flat_map block_words written ++ x.1
  pub count : length written ≡ many
  pub valid : AllByRecursion IsWritten written
  pub read : x.0 ≡ map read_of written

-- formulas and logs that are read are what the words spell
pub blocks_found : (many : ℕ) (ws : List Word) (x : List Refutation × List Word) → blocks_in many ws ≡ Some x → SpellsBlocks many ws x
blocks_found zero ws x h =
    let same : ◌≡◌ {A = List Refutation × List Word} ([], ws) x = cc in
    subst (SpellsBlocks zero ws) same (record { written = []; words = refl; count = refl; valid = tt; read = refl })
blocks_found (suc n) ws x h =
    let a = bind_some (block_in ws) (λ l. with_first l.0 (blocks_in n l.1)) x h in
    let f = first_some a.0.0 (blocks_in n a.0.1) x a.2 in
    let l = block_found ws a.0 a.1 in
    let m = blocks_found n a.0.1 f.0 f.1 in
    subst (SpellsBlocks (suc n) ws) f.2 (record {
      written = l.written ∷ m.written;
      words = l.words ∙ ap (λ vs. block_words l.written ++ vs) m.words ∙ sym (append_assoc (block_words l.written) (flat_map block_words m.written) f.0.1);
      count = omega (arith, m.count);
      valid = (l.valid, m.valid);
      read = ap (λ r. r ∷ f.0.0) l.read ∙ ap (λ rs. read_of l.written ∷ rs) m.read;
    })

-- the words of formulas and logs are read as them
pub blocks_read : (written : List Written) (rest : List Word) → AllByRecursion IsWritten written → blocks_in (length written) (flat_map block_words written ++ rest) ≡ Some (map read_of written, rest)
blocks_read [] rest h = refl
blocks_read (b ∷ written) rest h =
    ap (λ ws. block_in ws >>= λ x. with_first x.0 (blocks_in (length written) x.1)) (append_assoc (block_words b) (flat_map block_words written) rest)
    ∙ ap (λ r. r >>= λ x. with_first x.0 (blocks_in (length written) x.1)) (block_read b (flat_map block_words written ++ rest) h.0)
    ∙ ap (with_first (read_of b)) (blocks_read written rest h.1)

-- what is found where no word is left is all
ended_is : {X : Type 0} (x : X × List Word) (y : X) → ended x ≡ Some y → (x.0 ≡ y) × (x.1 ≡ [])
ended_is (x, []) y h = (cc, refl)
ended_is (x, w ∷ ws) y h = absurd cc

-- what is read is what the text spells
pub proofs_found : (text : List ℕ) (ps : List Refutation) → proofs_in (words_of text) ≡ Some ps → IsProofText text ps
unfolding proofs_in
proofs_found text ps h =
    let p = bind_some (word_is (codes "proofs") (words_of text)) _ ps h in
    let n = bind_some (count_in p.0.1) _ ps p.2 in
    let f = bind_some (blocks_in n.0.0 n.0.1) ended ps n.2 in
    let e = ended_is f.0 ps f.2 in
    let m = blocks_found n.0.0 n.0.1 f.0 f.1 in
    let many = count_found p.0.1 n.0 n.1 in
    record {
      blocks = m.written;
      words = word_found (codes "proofs") (words_of text) p.0 p.1 ∙ ap (λ us. codes "proofs" ∷ us) (many.0 ∙ ap (λ k. decimal k ∷ n.0.1) (sym m.count)
          ∙ ap (λ us. decimal (length m.written) ∷ us) (m.words ∙ ap (λ us. flat_map block_words m.written ++ us) e.1 ∙ append-nil (flat_map block_words m.written)));
      count = omega (arith, m.count, many.1);
      valid = m.valid;
      read = sym e.0 ∙ m.read;
    }

-- what the text spells is read
pub proofs_read : (text : List ℕ) (ps : List Refutation) → IsProofText text ps → proofs_in (words_of text) ≡ Some ps
unfolding proofs_in
proofs_read text ps h =
    ap (λ ws. word_is (codes "proofs") ws >>= λ p. count_in p.1 >>= λ n. blocks_in n.0 n.1 >>= ended) h.words
    ∙ ap (λ r. r >>= λ n. blocks_in n.0 n.1 >>= ended) (count_read (length h.blocks) (flat_map block_words h.blocks) (omega (arith, h.count)))
    ∙ ap (λ ws. blocks_in (length h.blocks) ws >>= ended) (sym (append-nil (flat_map block_words h.blocks)))
    ∙ ap (λ r. r >>= ended) (blocks_read h.blocks [] h.valid)
    ∙ ap Some (sym h.read)

-- a text spells one list of formulas and logs at most
pub one_list : (text : List ℕ) (ps qs : List Refutation) → IsProofText text ps → IsProofText text qs → ps ≡ qs
one_list text ps qs h k = let same : ◌≡◌ {A = Option (List Refutation)} (Some ps) (Some qs) = sym (proofs_read text ps h) ∙ proofs_read text qs k in cc

-- what follows for a reading of the words that are left of a text
pub text_found : (text : List ℕ) (ps : List Refutation) → proofs_in (words_left true text) ≡ Some ps → IsProofText text ps
text_found text ps h = proofs_found text ps (ap proofs_in (sym (words_left-all text)) ∙ h)

-- what a text spells is read from its words
pub text_read : (text : List ℕ) (ps : List Refutation) → IsProofText text ps → proofs_in (words_left true text) ≡ Some ps
text_read text ps h = ap proofs_in (words_left-all text) ∙ proofs_read text ps h

-- and nothing else is
pub text_same : (text : List ℕ) (found ps : List Refutation) → proofs_in (words_left true text) ≡ Some found → IsProofText text ps → found ≡ ps
text_same text found ps h k = let same : ◌≡◌ {A = Option (List Refutation)} (Some found) (Some ps) = sym h ∙ text_read text ps k in cc

-- a text that isn't read spells nothing
pub text_none : (text : List ℕ) (ps : List Refutation) → proofs_in (words_left true text) ≡ None → IsProofText text ps → ⊥
text_none text ps h k = none-some ps (sym h ∙ text_read text ps k)
