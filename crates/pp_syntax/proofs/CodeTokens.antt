-- Tokens outside of double quotes: what is read is spelled, and what is spelled is read, or more.
use Rattle.std.proofs.Common.{◌≡◌, inl, inr, ℕ, Bool, true, false, cond, ◌==◌, List, [], ◌∷◌, Option, Some, None, refl, sym, ap, subst, ◌∙◌}
use Rattle.std.proofs.lemmas.Bool.{eqb-true, both_ways}
use Rattle.pp_syntax.specs.declared.token.Kind.{Kind}
use Rattle.pp_syntax.specs.declared.token.Kind.TheVariants as kind
use Rattle.pp_syntax.specs.declared.lexer.bytes.Style.TheVariants as style
use Rattle.pp_syntax.specs.Bytes.{is_digit, is_upper, is_lower}
use Rattle.pp_syntax.specs.Tokens.{begins, Joined, Name, is_among, keywords, Spelling}
use Rattle.pp_syntax.specs.Scanning.{Found, front_of, of_kind, after_colons, joined, name, word_kind, word_found, number, after_sq, sign, scoped, scoped_or_sign, token_by, code_token}
use Rattle.pp_syntax.proofs.Steps.{Takes, front_is}
use Rattle.pp_syntax.proofs.Names.{joined_takes, name_takes, colons_are}
use Rattle.pp_syntax.proofs.Numbers.{NumberText, number_takes}
use Rattle.pp_syntax.proofs.Quotes.{SqRest, sq_takes}
use Rattle.pp_syntax.proofs.Signs.{of_each, SignText, either_found, sign_takes}

-- if a token is found, what it takes from the front is a spelling of its kind
abbrev pub Code : Found → List ℕ → Type 0
Code found text = (x : Kind × List ℕ) → found ≡ Some x → Takes (Spelling x.0) text x.1

-- ---- words and keywords

-- a small letter stands first
abbrev begins_lower : List ℕ → Bool
begins_lower [] = false
begins_lower (b ∷ s) = is_lower b

-- what doesn't begin with a small letter is no keyword
no_keyword : (s : List ℕ) → begins_lower s ≡ false → is_among keywords s ≡ false
no_keyword s h = elim (is_among keywords s) as (λ v. is_among keywords s ≡ v → v ≡ false) [
  | true ↦ λ e. absurd (both_ways (begins_lower s) h (of_each begins_lower keywords s refl e))
  | false ↦ λ e. refl
] refl

-- segments of small letters spell a keyword or a WORD, as the table of keywords tells
word_spelled : (s : List ℕ) (v : Bool) → is_among keywords s ≡ v → Joined style.Word s → Spelling (cond v kind.Keyword kind.Word) s
word_spelled s true e h = e
word_spelled s false e h = (inl h, e)

-- what is found as a word is spelled so
word_code : (text : List ℕ) (r : Option (List ℕ)) → joined style.Word text ≡ r → Code (word_found text r) text
word_code text None e x h = cc
word_code text (Some rest) e x h =
    let t = joined_takes style.Word text rest e in
    let same : ◌≡◌ {A = Kind × List ℕ} (word_kind (front_of text rest), rest) x = cc in
    subst (λ (y : Kind × List ℕ). Takes (Spelling y.0) text y.1) same (record {
      front = t.front;
      spelled = subst (λ (f : List ℕ). Spelling (word_kind f) t.front) (sym (front_is text t.front rest t.whole)) (word_spelled t.front (is_among keywords t.front) refl t.spelled);
      whole = t.whole;
    })

-- what is found as a kind is spelled so, if each text that is taken is
kind_code : (k : Kind) (text behind : List ℕ) (r : Option (List ℕ)) → ((rest : List ℕ) → r ≡ Some rest → Takes (Spelling k) text rest) → Code (of_kind k r) text
kind_code k text behind None h x e = cc
kind_code k text behind (Some rest) h x e =
    let same : ◌≡◌ {A = Kind × List ℕ} (k, rest) x = cc in
    subst (λ (y : Kind × List ℕ). Takes (Spelling y.0) text y.1) same (h rest refl)

-- ---- behind `::`

-- a `::` and segments of a WORD are spelled as a WORD
scoped_word : (text behind rest : List ℕ) → text ≡ 58 ∷ 58 ∷ behind → joined style.Word behind ≡ Some rest → Takes (Spelling kind.Word) text rest
scoped_word text behind rest e h =
    let t = joined_takes style.Word behind rest h in
    record { front = 58 ∷ 58 ∷ t.front; spelled = (inr (t.front, refl, t.spelled), no_keyword (58 ∷ 58 ∷ t.front) refl); whole = e ∙ ap (λ u. 58 ∷ 58 ∷ u) t.whole }

-- a `::` and segments of a REF are spelled as a REF
scoped_ref : (text behind rest : List ℕ) → text ≡ 58 ∷ 58 ∷ behind → joined style.Ref behind ≡ Some rest → Takes (Spelling kind.Ref) text rest
scoped_ref text behind rest e h =
    let t = joined_takes style.Ref behind rest h in
    record { front = 58 ∷ 58 ∷ t.front; spelled = inr (t.front, refl, t.spelled); whole = e ∙ ap (λ u. 58 ∷ 58 ∷ u) t.whole }

-- what is found behind a `::` is spelled so
scoped_code : (text : List ℕ) (r : Option (List ℕ)) → after_colons text ≡ r → Code (scoped r) text
scoped_code text None e x h = cc
scoped_code text (Some behind) e x h = elim (either_found (of_kind kind.Word (joined style.Word behind)) (of_kind kind.Ref (joined style.Ref behind)) x h) [
  | inl f ↦ kind_code kind.Word text behind (joined style.Word behind) (λ rest j. scoped_word text behind rest (colons_are text behind e) j) x f
  | inr f ↦ kind_code kind.Ref text behind (joined style.Ref behind) (λ rest j. scoped_ref text behind rest (colons_are text behind e) j) x f.1
]

-- a sign of the table is a spelling of its kind
sign_spelled : (k : Kind) (s : List ℕ) → SignText k s → Spelling k s
sign_spelled kind.Sign s h = h
sign_spelled kind.LeftOut s h = h
sign_spelled kind.Word s h = absurd h
sign_spelled kind.Ref s h = absurd h
sign_spelled kind.Var s h = absurd h
sign_spelled kind.Int s h = absurd h
sign_spelled kind.Float s h = absurd h
sign_spelled kind.Sq s h = absurd h
sign_spelled kind.DqOpen s h = absurd h
sign_spelled kind.DqText s h = absurd h
sign_spelled kind.DqVar s h = absurd h
sign_spelled kind.Hole s h = absurd h
sign_spelled kind.HoleEnd s h = absurd h
sign_spelled kind.DqClose s h = absurd h
sign_spelled kind.Tight s h = absurd h
sign_spelled kind.Loose s h = absurd h
sign_spelled kind.Keyword s h = absurd h

-- the text of a number is a spelling of its kind
number_spelled : (k : Kind) (s : List ℕ) → NumberText k s → Spelling k s
number_spelled kind.Int s h = h
number_spelled kind.Float s h = h
number_spelled kind.Word s h = absurd h
number_spelled kind.Ref s h = absurd h
number_spelled kind.Var s h = absurd h
number_spelled kind.Sign s h = absurd h
number_spelled kind.LeftOut s h = absurd h
number_spelled kind.Sq s h = absurd h
number_spelled kind.DqOpen s h = absurd h
number_spelled kind.DqText s h = absurd h
number_spelled kind.DqVar s h = absurd h
number_spelled kind.Hole s h = absurd h
number_spelled kind.HoleEnd s h = absurd h
number_spelled kind.DqClose s h = absurd h
number_spelled kind.Tight s h = absurd h
number_spelled kind.Loose s h = absurd h
number_spelled kind.Keyword s h = absurd h

-- what is taken from a set is taken from a larger set
takes_as : (A B : List ℕ → Type 0) (text rest : List ℕ) → ((s : List ℕ) → A s → B s) → Takes A text rest → Takes B text rest
takes_as A B text rest f t = record { front = t.front; spelled = f t.front t.spelled; whole = t.whole }

-- what is found as a name behind `::` or as a sign is spelled so
colon_or_sign : (text : List ℕ) → Code (scoped_or_sign text) text
colon_or_sign text x h = elim (either_found (scoped (after_colons text)) (sign text) x h) [
  | inl f ↦ scoped_code text (after_colons text) refl x f
  | inr f ↦ takes_as (SignText x.0) (Spelling x.0) text x.1 (sign_spelled x.0) (sign_takes text x f.1)
]

-- ---- each first byte

-- what is found by one of two cases is spelled so, if it is in each
code_cond : (v w : Bool) (f g : Found) (text : List ℕ) → w ≡ v → (w ≡ true → Code f text) → (w ≡ false → Code g text) → Code (cond v f g) text
code_cond true w f g text e yes_ no_ = yes_ e
code_cond false w f g text e yes_ no_ = no_ e

-- what is found as a REF is spelled so
ref_code : (b : ℕ) (rest : List ℕ) → Code (of_kind kind.Ref (joined style.Ref (b ∷ rest))) (b ∷ rest)
ref_code b rest = kind_code kind.Ref (b ∷ rest) rest (joined style.Ref (b ∷ rest)) (λ r e. takes_as (Joined style.Ref) (Spelling kind.Ref) (b ∷ rest) r (λ s h. inl h) (joined_takes style.Ref (b ∷ rest) r e))

-- behind its first byte a spelling is taken as its rest is
behind_lead : (b lead : ℕ) (k : Kind) (A : List ℕ → Type 0) (rest r : List ℕ) → b ≡ lead → ((s : List ℕ) → A s → Spelling k (lead ∷ s)) → Takes A rest r → Takes (Spelling k) (b ∷ rest) r
behind_lead b lead k A rest r e f t = record { front = lead ∷ t.front; spelled = f t.front t.spelled; whole = ap (λ c. c ∷ rest) e ∙ ap (λ u. lead ∷ u) t.whole }

-- what is found as a VAR is spelled so
var_code : (b : ℕ) (rest : List ℕ) → b ≡ 36 → Code (of_kind kind.Var (name style.Var rest)) (b ∷ rest)
var_code b rest e = kind_code kind.Var (b ∷ rest) rest (name style.Var rest) (λ r h. behind_lead b 36 kind.Var (Name style.Var) rest r e (λ s n. (s, refl, n)) (name_takes style.Var rest r h))

-- what is found in single quotes is spelled so
sq_code : (b : ℕ) (rest : List ℕ) → b ≡ 39 → Code (of_kind kind.Sq (after_sq rest)) (b ∷ rest)
sq_code b rest e = kind_code kind.Sq (b ∷ rest) rest (after_sq rest) (λ r h. behind_lead b 39 kind.Sq SqRest rest r e (λ s q. (q.0, ap (λ u. 39 ∷ u) q.1, q.2)) (sq_takes rest r h))

-- what is found as an opening double quote is spelled so
open_code : (b : ℕ) (rest : List ℕ) → b ≡ 34 → Code (Some (kind.DqOpen, rest)) (b ∷ rest)
open_code b rest e x h =
    let same : ◌≡◌ {A = Kind × List ℕ} (kind.DqOpen, rest) x = cc in
    subst (λ (y : Kind × List ℕ). Takes (Spelling y.0) (b ∷ rest) y.1) same (record { front = 34 ∷ []; spelled = refl; whole = ap (λ c. c ∷ rest) e })

-- what is found as a number is spelled so
number_code : (b : ℕ) (rest : List ℕ) → is_digit b ≡ true → Code (number (b ∷ rest)) (b ∷ rest)
number_code b rest d x h = takes_as (NumberText x.0) (Spelling x.0) (b ∷ rest) x.1 (number_spelled x.0) (number_takes b rest x d h)

-- what is found by its first byte is spelled so
by_first : (b : ℕ) (rest : List ℕ) → Code (token_by b rest) (b ∷ rest)
by_first b rest =
    code_cond (begins style.Word b) (begins style.Word b) _ _ (b ∷ rest) refl (λ e. word_code (b ∷ rest) (joined style.Word (b ∷ rest)) refl) (λ n.
    code_cond (is_upper b) (is_upper b) _ _ (b ∷ rest) refl (λ e. ref_code b rest) (λ n.
    code_cond (b == 36) (b == 36) _ _ (b ∷ rest) refl (λ e. var_code b rest (eqb-true b 36 e)) (λ n.
    code_cond (is_digit b) (is_digit b) _ _ (b ∷ rest) refl (λ e. number_code b rest e) (λ n.
    code_cond (b == 39) (b == 39) _ _ (b ∷ rest) refl (λ e. sq_code b rest (eqb-true b 39 e)) (λ n.
    code_cond (b == 34) (b == 34) _ _ (b ∷ rest) refl (λ e. open_code b rest (eqb-true b 34 e)) (λ n.
    colon_or_sign (b ∷ rest)))))))

-- each token that is found outside of double quotes is spelled so
pub code_takes : (text : List ℕ) → Code (code_token text) text
unfolding code_token
code_takes [] x h = cc
code_takes (b ∷ rest) x h = by_first b rest x h
