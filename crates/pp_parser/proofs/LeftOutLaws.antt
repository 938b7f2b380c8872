-- The test for tokens that are left out, against what it means.
use Rattle.std.proofs.Common.{◌≡◌, ◌≢◌, ◌⊎◌, inl, inr, ℕ, Bool, true, false, ◌&&◌, not, List, [], ◌∷◌, Option, Some, None, refl, sym, ap, ◌∙◌}
use Rattle.std.specs.Prelude.{codes}
use Rattle.std.specs.Str.{bytes_eq}
use Rattle.std.proofs.lemmas.Bool.{and_parts, and_from, both_ways, not-true, not_from_false, or_cases, cases_Bool}
use Rattle.std.proofs.lemmas.Slice.Eq.{bytes_eq-Decides}
use Rattle.pp_syntax.specs.declared.token.Kind.{Kind}
use Rattle.pp_syntax.specs.declared.token.Kind.TheVariants as kind
use Rattle.pp_syntax.specs.Tokens.{Lexeme, is_among}
use Rattle.pp_syntax.specs.declared.tree.Func.{Func}
use Rattle.pp_syntax.specs.Statements.{functions, function_of}
use Rattle.pp_readers.proofs.Names.{no_function, function_none}
use Rattle.pp_syntax.specs.LeftOut.{IsFirst, IsNowhere, BeginsWith, NamesFollow, IsLeftOut, sign, float, splat, function}
use Rattle.pp_parser.specs.Scanning.{is_sign, begins_with, names_by, names_follow, left_out_by, is_left_out, first_left_out}
use Rattle.pp_parser.proofs.First.{folded, found_all, nowhere_all}

-- texts that are told to be equal are
same_text : (a b : List ℕ) → bytes_eq a b ≡ true → a ≡ b
same_text a b h = (bytes_eq-Decides a b).0 h

-- and equal texts are told to be
text_test : (a b : List ℕ) → a ≡ b → bytes_eq a b ≡ true
text_test a b h = (bytes_eq-Decides a b).1 h

-- a kind that is told to be that of signs is
sign_is : (k : Kind) → is_sign k ≡ true → k ≡ kind.Sign
sign_is kind.Sign h = refl
sign_is k h = cc

-- where the test says that a sign begins, it does
pub begins_tells : (text : List ℕ) (tokens : List Lexeme) → begins_with text tokens ≡ true → BeginsWith text tokens
begins_tells text [] h = cc
begins_tells text (t ∷ tokens) h = let p = and_parts (is_sign t.kind) (bytes_eq t.text text) h in (sign_is t.kind p.0, same_text t.text text p.1)

-- and where it begins, the test says so
pub begins_test : (text : List ℕ) (tokens : List Lexeme) → BeginsWith text tokens → begins_with text tokens ≡ true
begins_test text [] h = absurd h
begins_test text (t ∷ tokens) h = and_from (is_sign t.kind) (bytes_eq t.text text) (ap is_sign h.0) (text_test t.text text h.1)

-- the test for a function
pub a_function : (s : List ℕ) (f : Func) → Some f ≡ function_of s → is_among functions s ≡ true
a_function s f h = elim (cases_Bool (is_among functions s)) [ inl y ↦ y | inr n ↦ absurd (some_none (h ∙ function_none s n)) ]
  where
    some_none : ◌≡◌ {A = Option Func} (Some f) None → ⊥
    some_none k = cc

-- a word that is told to be no function is none
pub other_word : (s : List ℕ) → None ≡ function_of s → is_among functions s ≡ false
other_word s h = no_function s (sym h)

-- ---- `class` and `define`

-- where the test says `class` or `define`, it is one of them
names_tell : (k : Kind) (text : List ℕ) → names_by k text ≡ true → (k ≡ kind.Keyword) × ((text ≡ codes "class") ⊎ (text ≡ codes "define"))
names_tell kind.Keyword text h = (
  refl,
  elim (or_cases (bytes_eq (codes "class") text) (is_among (codes "define" ∷ []) text) h) [
    | inl e ↦ inl (sym (same_text (codes "class") text e))
    | inr e ↦ elim (or_cases (bytes_eq (codes "define") text) false e) [
      | inl f ↦ inr (sym (same_text (codes "define") text f))
      | inr f ↦ cc
    ]
  ],
)
names_tell k text h = cc

-- and where it is, the test says so
names_test : (k : Kind) (text : List ℕ) → k ≡ kind.Keyword → (text ≡ codes "class") ⊎ (text ≡ codes "define") → names_by k text ≡ true
names_test k text e (inl h) = ap (λ (j : Kind). names_by j text) e ∙ ap (λ u. is_among (codes "class" ∷ codes "define" ∷ []) u) h
names_test k text e (inr h) = ap (λ (j : Kind). names_by j text) e ∙ ap (λ u. is_among (codes "class" ∷ codes "define" ∷ []) u) h

-- where a name is told to follow these tokens, it does
follow_tells : (names : Bool) (tokens : List Lexeme) → tokens ≢ [] → folded names_follow names tokens ≡ true → NamesFollow tokens
follow_tells names [] some h = absurd (some refl)
follow_tells names (t ∷ []) some h = names_tell t.kind t.text h
follow_tells names (t ∷ u ∷ tokens) some h = follow_tells (names_by t.kind t.text) (u ∷ tokens) (λ e. cc) h

-- so it is from the start
follow_start : (tokens : List Lexeme) → folded names_follow false tokens ≡ true → NamesFollow tokens
follow_start [] h = cc
follow_start (t ∷ tokens) h = follow_tells false (t ∷ tokens) (λ e. cc) h

-- and where a name follows, it is told to
follow_test : (names : Bool) (tokens : List Lexeme) → NamesFollow tokens → folded names_follow names tokens ≡ true
follow_test names [] h = absurd h
follow_test names (t ∷ []) h = names_test t.kind t.text h.0 h.1
follow_test names (t ∷ u ∷ tokens) h = follow_test (names_by t.kind t.text) (u ∷ tokens) h

-- ---- the test

-- the token is left out of the language
abbrev Out : List Lexeme → Lexeme → List Lexeme → Type 0
Out before t behind = IsLeftOut before t behind

-- a `*` that is told to be left out is
splat_tells : (before : List Lexeme) (t : Lexeme) (behind : List Lexeme) → t.kind ≡ kind.Sign → (bytes_eq t.text (codes "*") && begins_with (codes "=>") behind) ≡ true → Out before t behind
splat_tells before t behind k h = let p = and_parts (bytes_eq t.text (codes "*")) (begins_with (codes "=>") behind) h in splat k (same_text t.text (codes "*") p.0) (begins_tells (codes "=>") behind p.1)

-- a word before `(` that is told to be left out is
function_tells : (before : List Lexeme) (t : Lexeme) (behind : List Lexeme) → t.kind ≡ kind.Word → (not (is_among functions t.text) && begins_with (codes "(") behind && not (folded names_follow false before)) ≡ true → Out before t behind
function_tells before t behind k h =
    let p = and_parts (not (is_among functions t.text) && begins_with (codes "(") behind) (not (folded names_follow false before)) h in
    let q = and_parts (not (is_among functions t.text)) (begins_with (codes "(") behind) p.0 in
    function k (not-true (is_among functions t.text) q.0) (begins_tells (codes "(") behind q.1) (λ n. both_ways (folded names_follow false before) (not-true (folded names_follow false before) p.1) (follow_test false before n))

-- a token of each kind that is told to be left out is
by_kind : (k : Kind) (before : List Lexeme) (t : Lexeme) (behind : List Lexeme) → t.kind ≡ k → left_out_by k t.text (folded names_follow false before) behind ≡ true → Out before t behind
by_kind kind.LeftOut before t behind e h = sign e
by_kind kind.Float before t behind e h = float e
by_kind kind.Sign before t behind e h = splat_tells before t behind e h
by_kind kind.Word before t behind e h = function_tells before t behind e h
by_kind k before t behind e h = cc

-- a token that is told to be left out is
tells : (before : List Lexeme) (t : Lexeme) (behind : List Lexeme) → is_left_out (folded names_follow false before) t behind ≡ true → Out before t behind
tells before t behind h = by_kind t.kind before t behind refl h

-- and one that is left out is told to be
told_by : (before : List Lexeme) (t : Lexeme) (behind : List Lexeme) → Out before t behind → is_left_out (folded names_follow false before) t behind ≡ true
told_by before t behind (sign e) = ap (λ (k : Kind). left_out_by k t.text (folded names_follow false before) behind) e
told_by before t behind (float e) = ap (λ (k : Kind). left_out_by k t.text (folded names_follow false before) behind) e
told_by before t behind (splat e s n) =
    ap (λ (k : Kind). left_out_by k t.text (folded names_follow false before) behind) e
    ∙ and_from (bytes_eq t.text (codes "*")) (begins_with (codes "=>") behind) (text_test t.text (codes "*") s) (begins_test (codes "=>") behind n)
told_by before t behind (function e f n names) =
    ap (λ (k : Kind). left_out_by k t.text (folded names_follow false before) behind) e
    ∙ and_from (not (is_among functions t.text) && begins_with (codes "(") behind) (not (folded names_follow false before))
    (and_from (not (is_among functions t.text)) (begins_with (codes "(") behind) (not_from_false (is_among functions t.text) f) (begins_test (codes "(") behind n))
    (not_from_false (folded names_follow false before) (elim (cases_Bool (folded names_follow false before)) [ inl y ↦ absurd (names (follow_start before y)) | inr y ↦ y ]))

-- the token that is found is the first that is left out
pub left_out_found : (tokens : List Lexeme) (t : Lexeme) → first_left_out false tokens ≡ Some t → IsFirst IsLeftOut tokens t
left_out_found = found_all names_follow is_left_out false IsLeftOut tells told_by

-- where none is found, none is left out
pub none_left_out : (tokens : List Lexeme) → first_left_out false tokens ≡ None → IsNowhere IsLeftOut tokens
none_left_out = nowhere_all names_follow is_left_out false IsLeftOut tells told_by
