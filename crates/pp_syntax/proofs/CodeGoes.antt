-- Tokens outside of double quotes: what is spelled is read, or more.
use Rattle.std.proofs.Common.{◌≡◌, ◌≢◌, inl, inr, ℕ, ◌<◌, ◌≤◌, Bool, true, false, cond, ◌&&◌, ◌==◌, not, List, [], ◌∷◌, ◌++◌, length, Some, None, refl, sym, ap, subst, ◌∙◌, arith, append_assoc}
use Rattle.std.specs.Option.{option_map}
use Rattle.std.proofs.lemmas.Bool.{and_parts, eqb-false, ne_eqb, both_ways, or_left, not-true}
use Rattle.std.proofs.lemmas.Bool.Decides.{nat_tests}
use Rattle.pp_syntax.specs.declared.token.Kind.{Kind}
use Rattle.pp_syntax.specs.declared.token.Kind.TheVariants as kind
use Rattle.pp_syntax.specs.declared.lexer.bytes.Style.{Style}
use Rattle.pp_syntax.specs.declared.lexer.bytes.Style.TheVariants as style
use Rattle.pp_syntax.specs.Bytes.{is_digit, is_upper, is_lower, is_name}
use Rattle.pp_syntax.specs.Tokens.{Of, begins, goes_on, NoDashLast, Segment, Joined, one, is_among, keywords, signs, left_out, Spelling, IntText, FloatText}
use Rattle.pp_syntax.specs.Scanning.{front_of, of_kind, or_else, segment, all_segments, tail_from, after_colons, joined, name, word_kind, word_found, number, after_sq, sign_of, sign, scoped, scoped_or_sign, token_by, code_token}
use Rattle.pp_syntax.proofs.Steps.{takes_short, front_is, Leaves, Goes, goes_by, goes_along}
use Rattle.pp_syntax.proofs.Names.{joined_takes, joined_reaches, joined_first, name_reaches, no_colons, colons_are}
use Rattle.pp_syntax.proofs.Numbers.{int_goes, float_goes, int_first, float_first}
use Rattle.pp_syntax.proofs.Quotes.{sq_reads}
use Rattle.pp_syntax.proofs.Signs.{either_found, of_each, sign_goes, sign_lead, is_sized, sized_sign, sized_left_out, only_left_out, lead_by_sign, or_goes}

-- ---- words and keywords

-- where reading leaves the rest of a word or less, the word or a longer token is found
word_leaves : (s r rest : List ℕ) → Leaves r rest → Goes (word_kind s) r (Some (word_kind (front_of (s ++ r) rest), rest))
word_leaves s r rest (inl h) = ((word_kind (front_of (s ++ r) rest), rest), refl, inl h)
word_leaves s r rest (inr e) =
    let front : front_of (s ++ r) rest ≡ s = front_is (s ++ r) s rest (ap (λ t. s ++ t) (sym e)) in
    ((word_kind (front_of (s ++ r) rest), rest), refl, inr (cc))

-- a WORD or a keyword is read as a token, or something longer is
word_goes : (s r : List ℕ) → Joined style.Word s → Goes (word_kind s) r (code_token (s ++ r))
unfolding code_token
word_goes s r h =
    let f = joined_first style.Word s h in
    let g = joined_reaches style.Word s r h in
    let text : s ++ r ≡ f.0 ∷ f.1 ++ r = ap (λ t. t ++ r) f.2 in
    let lead : code_token (s ++ r) ≡ word_found (s ++ r) (joined style.Word (s ++ r)) =
    ap code_token text ∙ ap (λ v. cond v (word_found (f.0 ∷ f.1 ++ r) (joined style.Word (f.0 ∷ f.1 ++ r))) (cond (is_upper f.0) (of_kind kind.Ref (joined style.Ref (f.0 ∷ f.1 ++ r)))
    (cond (f.0 == 36) (of_kind kind.Var (name style.Var (f.1 ++ r))) (cond (is_digit f.0) (number (f.0 ∷ f.1 ++ r)) (cond (f.0 == 39) (of_kind kind.Sq (after_sq (f.1 ++ r)))
    (cond (f.0 == 34) (Some (kind.DqOpen, f.1 ++ r)) (scoped_or_sign (f.0 ∷ f.1 ++ r)))))))) f.3 ∙ ap (λ t. word_found t (joined style.Word t)) (sym text) in
    goes_along (word_kind s) r (code_token (s ++ r)) (Some (word_kind (front_of (s ++ r) g.0), g.0)) (lead ∙ ap (word_found (s ++ r)) g.1) (word_leaves s r g.0 g.2)

-- so is a WORD behind `::`
scoped_word_goes : (s r : List ℕ) → Joined style.Word s → Goes kind.Word r (code_token (58 ∷ 58 ∷ s ++ r))
unfolding code_token
scoped_word_goes s r h =
    let g = joined_reaches style.Word s r h in
    goes_by kind.Word r g.0 (code_token (58 ∷ 58 ∷ s ++ r)) (ap (λ u. or_else (or_else (of_kind kind.Word u) (of_kind kind.Ref (joined style.Ref (s ++ r)))) (sign (58 ∷ 58 ∷ s ++ r))) g.1) g.2

-- what is no keyword is of the kind WORD
plain_word : (s : List ℕ) → is_among keywords s ≡ false → word_kind s ≡ kind.Word
plain_word s h = ap (λ v. cond v kind.Keyword kind.Word) h

-- each spelling of a WORD is read, or something longer
pub word_spelled_goes : (s r : List ℕ) → Spelling kind.Word s → Goes kind.Word r (code_token (s ++ r))
word_spelled_goes s r ((inl h), no_keyword) = subst (λ (k : Kind). Goes k r (code_token (s ++ r))) (plain_word s no_keyword) (word_goes s r h)
word_spelled_goes s r ((inr h), no_keyword) = subst (λ (t : List ℕ). Goes kind.Word r (code_token (t ++ r))) (sym h.1) (scoped_word_goes h.0 r h.2)

-- each keyword is one segment of small letters
abbrev all_lower : List ℕ → Bool
all_lower [] = true
all_lower (b ∷ s) = is_lower b && all_lower s

-- one or more small letters
abbrev is_lower_word : List ℕ → Bool
is_lower_word [] = false
is_lower_word (b ∷ s) = is_lower b && all_lower s

-- a small letter may stand in a name
lower_name : (b : ℕ) → is_lower b ≡ true → is_name b ≡ true
lower_name b h = grind (arith, nat_tests)

-- and is no dash
lower_no_dash : (b : ℕ) → is_lower b ≡ true → b ≢ 45
lower_no_dash b h e = both_ways (is_lower b) (ap is_lower e) h

-- small letters go on with a segment of a WORD
lower_goes_on : (s : List ℕ) → all_lower s ≡ true → Of (goes_on style.Word) s
lower_goes_on [] h = tt
lower_goes_on (b ∷ s) h = let p = and_parts (is_lower b) (all_lower s) h in (or_left (is_name b) (b == 45) (lower_name b p.0), lower_goes_on s p.1)

-- the last of them is no dash
lower_last : (s : List ℕ) → all_lower s ≡ true → NoDashLast s
lower_last [] h = tt
lower_last (b ∷ []) h = lower_no_dash b (and_parts (is_lower b) true h).0
lower_last (b ∷ c ∷ s) h = lower_last (c ∷ s) (and_parts (is_lower b) (all_lower (c ∷ s)) h).1

-- one or more of them are a segment of a WORD
lower_segment : (s : List ℕ) → is_lower_word s ≡ true → Segment style.Word s
lower_segment [] h = cc
lower_segment (b ∷ s) h = let p = and_parts (is_lower b) (all_lower s) h in (or_left (is_lower b) (b == 95) p.0, lower_goes_on s p.1, lower_last s p.1)

-- each keyword is read, or something longer
pub keyword_goes : (s r : List ℕ) → is_among keywords s ≡ true → Goes kind.Keyword r (code_token (s ++ r))
keyword_goes s r h =
    let k : word_kind s ≡ kind.Keyword = ap (λ v. cond v kind.Keyword kind.Word) h in
    subst (λ (j : Kind). Goes j r (code_token (s ++ r))) k (word_goes s r (one (lower_segment s (of_each is_lower_word keywords s refl h))))

-- ---- references

-- a capital begins no WORD
upper_no_word : (b : ℕ) → is_upper b ≡ true → begins style.Word b ≡ false
upper_no_word b h = grind (arith, nat_tests)

-- a token that begins with a capital is a REF
upper_lead : (b : ℕ) (t : List ℕ) → is_upper b ≡ true → token_by b t ≡ of_kind kind.Ref (joined style.Ref (b ∷ t))
upper_lead b t h = rw (upper_no_word b h, h)

-- segments with capitals are read as a REF, or something longer is
ref_goes : (s r : List ℕ) → Joined style.Ref s → Goes kind.Ref r (code_token (s ++ r))
unfolding code_token
ref_goes s r h =
    let f = joined_first style.Ref s h in
    let g = joined_reaches style.Ref s r h in
    let text : s ++ r ≡ f.0 ∷ f.1 ++ r = ap (λ t. t ++ r) f.2 in
    goes_by kind.Ref r g.0 (code_token (s ++ r)) (ap code_token text ∙ upper_lead f.0 (f.1 ++ r) f.3 ∙ ap (λ t. of_kind kind.Ref (joined style.Ref t)) (sym text) ∙ ap (of_kind kind.Ref) g.1) g.2

-- where they stand there is no WORD
no_word_here : (s r : List ℕ) → Joined style.Ref s → joined style.Word (s ++ r) ≡ None
unfolding joined
no_word_here s r h =
    let f = joined_first style.Ref s h in
    ap (λ t. option_map (all_segments style.Word) (segment style.Word (t ++ r))) f.2
    ∙ ap (λ v. option_map (all_segments style.Word) (cond v (Some (tail_from style.Word (f.1 ++ r) (f.1 ++ r))) None)) (upper_no_word f.0 f.3)

-- so are they behind `::`
scoped_ref_goes : (s r : List ℕ) → Joined style.Ref s → Goes kind.Ref r (code_token (58 ∷ 58 ∷ s ++ r))
unfolding code_token
scoped_ref_goes s r h =
    let g = joined_reaches style.Ref s r h in
    goes_by kind.Ref r g.0 (code_token (58 ∷ 58 ∷ s ++ r))
    (ap (λ u. or_else (or_else (of_kind kind.Word u) (of_kind kind.Ref (joined style.Ref (s ++ r)))) (sign (58 ∷ 58 ∷ s ++ r))) (no_word_here s r h)
    ∙ ap (λ u. or_else (of_kind kind.Ref u) (sign (58 ∷ 58 ∷ s ++ r))) g.1) g.2

-- each spelling of a REF is read, or something longer
pub ref_spelled_goes : (s r : List ℕ) → Spelling kind.Ref s → Goes kind.Ref r (code_token (s ++ r))
ref_spelled_goes s r (inl h) = ref_goes s r h
ref_spelled_goes s r (inr h) = subst (λ (t : List ℕ). Goes kind.Ref r (code_token (t ++ r))) (sym h.1) (scoped_ref_goes h.0 r h.2)

-- ---- variables, numbers, texts

-- each spelling of a VAR is read, or something longer
pub var_goes : (s r : List ℕ) → Spelling kind.Var s → Goes kind.Var r (code_token (s ++ r))
unfolding code_token
var_goes s r h =
    let g = name_reaches style.Var h.0 r h.2 in
    goes_by kind.Var r g.0 (code_token (s ++ r)) (ap (λ t. code_token (t ++ r)) h.1 ∙ ap (of_kind kind.Var) g.1) g.2

-- a digit begins no WORD
digit_no_word : (b : ℕ) → is_digit b ≡ true → begins style.Word b ≡ false
digit_no_word b h = grind (arith, nat_tests)

-- a digit is no capital
digit_no_upper : (b : ℕ) → is_digit b ≡ true → is_upper b ≡ false
digit_no_upper b h = grind (arith, nat_tests)

-- a digit is no `$`
digit_no_dollar : (b : ℕ) → is_digit b ≡ true → (b == 36) ≡ false
digit_no_dollar b h = ne_eqb b 36 (λ e. both_ways (is_digit b) (ap is_digit e) h)

-- a token that begins with a digit is a number
digit_lead : (b : ℕ) (t : List ℕ) → is_digit b ≡ true → token_by b t ≡ number (b ∷ t)
digit_lead b t h = rw (digit_no_word b h, digit_no_upper b h, digit_no_dollar b h, h)

-- a text that begins with a digit is read as a number
number_first : (s r : List ℕ) (b : ℕ) (more : List ℕ) → s ≡ b ∷ more → is_digit b ≡ true → code_token (s ++ r) ≡ number (s ++ r)
unfolding code_token
number_first s r b more e d = ap (λ t. code_token (t ++ r)) e ∙ digit_lead b (more ++ r) d ∙ ap (λ t. number (t ++ r)) (sym e)

-- each spelling of an INT is read, or something longer
pub int_spelled_goes : (s r : List ℕ) → IntText s → Goes kind.Int r (code_token (s ++ r))
int_spelled_goes s r h = let f = int_first s h in goes_along kind.Int r (code_token (s ++ r)) (number (s ++ r)) (number_first s r f.0 f.1 f.2 f.3) (int_goes s r h)

-- each spelling of a FLOAT is read, or something longer
pub float_spelled_goes : (s r : List ℕ) → FloatText s → Goes kind.Float r (code_token (s ++ r))
float_spelled_goes s r h = let f = float_first s h in goes_along kind.Float r (code_token (s ++ r)) (number (s ++ r)) (number_first s r f.0 f.1 f.2 f.3) (float_goes s r h)

-- each text in single quotes is read
pub sq_goes : (s r : List ℕ) → Spelling kind.Sq s → Goes kind.Sq r (code_token (s ++ r))
unfolding code_token
sq_goes s r h =
    goes_by kind.Sq r r (code_token (s ++ r))
    (ap (λ t. code_token (t ++ r)) h.1 ∙ ap (λ t. of_kind kind.Sq (after_sq t)) (append_assoc h.0 (39 ∷ []) r) ∙ ap (of_kind kind.Sq) (sq_reads h.0 r h.2)) (inr refl)

-- an opening double quote is read
pub open_goes : (s r : List ℕ) → Spelling kind.DqOpen s → Goes kind.DqOpen r (code_token (s ++ r))
unfolding code_token
open_goes s r h = goes_by kind.DqOpen r r (code_token (s ++ r)) (ap (λ t. code_token (t ++ r)) h) (inr refl)

-- ---- signs

-- a name leaves no more than there was
kind_short : (k : Kind) (text : List ℕ) (how : Style) (x : Kind × List ℕ) → of_kind k (joined how text) ≡ Some x → length x.1 ≤ length text
kind_short k text how x h = elim (joined how text) as (λ r. joined how text ≡ r → of_kind k r ≡ Some x → length x.1 ≤ length text) [
  | None ↦ λ e f. cc
  | Some rest ↦ λ e f.
      let same : ◌≡◌ {A = Kind × List ℕ} (k, rest) x = cc in
      subst (λ (y : Kind × List ℕ). length y.1 ≤ length text) same (takes_short (Joined how) text rest (joined_takes how text rest e))
] refl h

-- so does a name behind `::`
scoped_short : (text : List ℕ) (x : Kind × List ℕ) → scoped (Some text) ≡ Some x → length x.1 ≤ length text
scoped_short text x h = elim (either_found (of_kind kind.Word (joined style.Word text)) (of_kind kind.Ref (joined style.Ref text)) x h) [
  | inl f ↦ kind_short kind.Word text style.Word x f
  | inr f ↦ kind_short kind.Ref text style.Ref x f.1
]

-- a name behind a `::` that begins with this byte goes past the byte behind it
scoped_far : (a : ℕ) (r : List ℕ) (x : Kind × List ℕ) → scoped (after_colons (a ∷ r)) ≡ Some x → length x.1 < length r
scoped_far a r x h = elim (after_colons (a ∷ r)) as (λ c. after_colons (a ∷ r) ≡ c → scoped c ≡ Some x → length x.1 < length r) [
  | None ↦ λ e k. cc
  | Some behind ↦ λ e k. omega (arith, ap length (colons_are (a ∷ r) behind e), scoped_short behind x k)
] refl h

-- where the first byte is no colon there is no name behind `::`
not_scoped : (a : ℕ) (t r : List ℕ) (x : Kind × List ℕ) → not (a == 58) ≡ true → scoped (after_colons (a ∷ t)) ≡ Some x → length x.1 < length r
not_scoped a t r x n h =
    let none : None ≡ Some x = sym (ap scoped (no_colons a t (eqb-false a 58 (not-true (a == 58) n)))) ∙ h in
    cc

-- where a token can only be a sign, or a longer name behind `::`, reading signs is enough
lead_goes : (k : Kind) (a : ℕ) (t r : List ℕ) → sign_lead a ≡ true → ((x : Kind × List ℕ) → scoped (after_colons (a ∷ t)) ≡ Some x → length x.1 < length r) → Goes k r (sign (a ∷ t)) → Goes k r (code_token (a ∷ t))
unfolding code_token
lead_goes k a t r lead far g = goes_along k r (token_by a t) (scoped_or_sign (a ∷ t)) (lead_by_sign a t lead) (or_goes k r (scoped (after_colons (a ∷ t))) (sign (a ∷ t)) far g)

-- a sign of the table is read, or something longer
sized_goes : (k : Kind) (s r : List ℕ) → is_sized s ≡ true → sign_of s ≡ Some k → Goes k r (code_token (s ++ r))
sized_goes k [] r z h = cc
sized_goes k (a ∷ []) r z h = lead_goes k a r r z (scoped_far a r) (sign_goes k (a ∷ []) r z h)
sized_goes k (a ∷ b ∷ []) r z h = let p = and_parts (sign_lead a) (not (a == 58)) z in lead_goes k a (b ∷ r) r p.0 (λ x. not_scoped a (b ∷ r) r x p.1) (sign_goes k (a ∷ b ∷ []) r z h)
sized_goes k (a ∷ b ∷ c ∷ []) r z h = let p = and_parts (sign_lead a) (not (a == 58)) z in lead_goes k a (b ∷ c ∷ r) r p.0 (λ x. not_scoped a (b ∷ c ∷ r) r x p.1) (sign_goes k (a ∷ b ∷ c ∷ []) r z h)
sized_goes k (a ∷ b ∷ c ∷ d ∷ s) r z h = cc

-- each sign of this language is read, or something longer
sign_spelled_goes : (s r : List ℕ) → is_among signs s ≡ true → Goes kind.Sign r (code_token (s ++ r))
sign_spelled_goes s r h = sized_goes kind.Sign s r (sized_sign s h) (ap (λ v. cond v (Some kind.Sign) (cond (is_among left_out s) (Some kind.LeftOut) None)) h)

-- so is each sign that it leaves out
left_out_goes : (s r : List ℕ) → is_among left_out s ≡ true → Goes kind.LeftOut r (code_token (s ++ r))
left_out_goes s r h = sized_goes kind.LeftOut s r (sized_left_out s h)
    (ap (λ v. cond v (Some kind.Sign) (cond (is_among left_out s) (Some kind.LeftOut) None)) (only_left_out s h) ∙ ap (λ v. cond v (Some kind.LeftOut) None) h)

-- ---- every kind

-- each spelling outside of double quotes is read, or something longer
pub code_goes : (k : Kind) (s r : List ℕ) → Spelling k s → Goes k r (code_token (s ++ r))
code_goes kind.Word s r h = word_spelled_goes s r h
code_goes kind.Ref s r h = ref_spelled_goes s r h
code_goes kind.Var s r h = var_goes s r h
code_goes kind.Int s r h = int_spelled_goes s r h
code_goes kind.Float s r h = float_spelled_goes s r h
code_goes kind.Sq s r h = sq_goes s r h
code_goes kind.DqOpen s r h = open_goes s r h
code_goes kind.Keyword s r h = keyword_goes s r h
code_goes kind.Sign s r h = sign_spelled_goes s r h
code_goes kind.LeftOut s r h = left_out_goes s r h
code_goes kind.DqText s r h = absurd h
code_goes kind.DqVar s r h = absurd h
code_goes kind.Hole s r h = absurd h
code_goes kind.HoleEnd s r h = absurd h
code_goes kind.DqClose s r h = absurd h
code_goes kind.Tight s r h = absurd h
code_goes kind.Loose s r h = absurd h
