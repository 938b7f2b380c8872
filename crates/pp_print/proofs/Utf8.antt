-- The canonical text of what a UTF-8 text spells is UTF-8.
use Rattle.std.proofs.Common.{◌≡◌, inl, inr, ℕ, zero, suc, ◌+◌, ◌<◌, Bool, true, false, cond, ◌||◌, ◌&&◌, ◌==◌, nat_lt, List, [], ◌∷◌, ◌++◌, length, drop, get_or, refl, sym, ap, subst, ◌∙◌, arith, append_assoc, length-append}
use Rattle.std.specs.Prelude.{IsUtf8, codes, encode_utf8}
use Rattle.std.specs.List.{AllByRecursion, list_any}
use Rattle.std.specs.Str.{bytes_eq}
use Rattle.std.proofs.lemmas.Slice.Eq.{bytes_eq-Decides}
use Rattle.std.proofs.Math.Seq.{take-append_seam, drop-append_seam}
use Rattle.std.proofs.lemmas.Bool.{and_parts, or_cases, eqb-true, ltb-true}
use Rattle.std.proofs.lemmas.Bool.Decides.{nat_tests}
use Rattle.std.proofs.lemmas.Str.{IsUtf8-append, IsUtf8-nil, IsUtf8-take, IsUtf8-drop, IsUtf8-encode, IsUtf8-from_ascii, IsCharBoundary-before_ascii, IsCharBoundary-after_ascii}
use Rattle.pp_syntax.specs.declared.token.Kind.{Kind}
use Rattle.pp_syntax.specs.declared.token.Kind.TheVariants as kind
use Rattle.pp_syntax.specs.declared.lexer.bytes.Style.{Style}
use Rattle.pp_syntax.specs.declared.lexer.bytes.Style.TheVariants as style
use Rattle.pp_syntax.specs.declared.tree.Manifest.{Manifest}
use Rattle.pp_syntax.specs.Bytes.{is_digit, is_octal, is_hex, is_name}
use Rattle.pp_syntax.specs.Tokens.{Lexeme, Of, SomeOf, begins, goes_on, Segment, Joined, one, another, Name, is_among, keywords, signs, IntText, only_zero, decimal, octal, hexadecimal, is_simple_escape, is_scalar, hex_value}
use Rattle.pp_syntax.specs.TokenValues.{sq_value, SqOf, simple_value, EscapeOf, simple, four, braced, DqOf, nothing, plain, escape, backslash}
use Rattle.pp_syntax.specs.Spelling.{Spells}
use Rattle.pp_syntax.specs.Statements.{IsManifest}
use Rattle.pp_print.specs.declared.words.Word.{Word}
use Rattle.pp_print.specs.Words.{must_escape, escaped, clings, holds, text_from}
use Rattle.pp_print.specs.Statements.{manifest_words}
use Rattle.pp_print.specs.Canonical.{canonical}
use Rattle.pp_print.proofs.Escapes.{special, must_special}
use Rattle.pp_print.proofs.Standing.{all_sound}
use Rattle.pp_print.proofs.Walks.{Mark, Last, May, opened_by, last_of, Walks, GoodWord, AllGood}
use Rattle.pp_print.proofs.WordLists.{GoodToken, Fine}
use Rattle.pp_print.proofs.StatementWalks.{manifest_good}
use Rattle.pp_syntax.proofs.Seams.{first_at}
use Rattle.pp_syntax.proofs.Names.{Of-append}

-- ---- ASCII bytes

-- one ASCII byte is UTF-8
ascii_one : (b : ℕ) → b < 128 → IsUtf8 (b ∷ [])
ascii_one b h = IsUtf8-from_ascii (b ∷ []) each
  where
    each : (i : ℕ) → get_or (b ∷ []) i 0 < 128
    each zero = h
    each (suc i) = omega arith

-- an ASCII byte between two UTF-8 texts makes one
behind_ascii : (pre rest : List ℕ) (b : ℕ) → b < 128 → IsUtf8 pre → IsUtf8 rest → IsUtf8 (pre ++ b ∷ rest)
behind_ascii pre rest b h u v = IsUtf8-append pre (b ∷ rest) u (IsUtf8-append (b ∷ []) rest (ascii_one b h) v)

-- An ASCII byte parts a text.
parted : (pre rest : List ℕ) (b : ℕ) → b < 128 → IsUtf8 (pre ++ b ∷ rest) → IsUtf8 pre × IsUtf8 rest
parted pre rest b h u =
    let long : length pre < length (pre ++ b ∷ rest) = omega (arith, length-append pre (b ∷ rest)) in
    let ascii : get_or (pre ++ b ∷ rest) (length pre) 0 < 128 = omega (arith, h, first_at pre rest b) in
    let front = IsUtf8-take (pre ++ b ∷ rest) (length pre) u (IsCharBoundary-before_ascii (pre ++ b ∷ rest) (length pre) long ascii) in
    let back = IsUtf8-drop (pre ++ b ∷ rest) (length pre + 1) u (IsCharBoundary-after_ascii (pre ++ b ∷ rest) (length pre) u long ascii) in
    let size : length pre + 1 ≡ length (pre ++ b ∷ []) = omega (arith, length-append pre (b ∷ [])) in (
      subst (λ (t : List ℕ). IsUtf8 t) (take-append_seam pre (b ∷ rest)) front,
      subst (λ (t : List ℕ). IsUtf8 t) (ap (λ n. drop n (pre ++ b ∷ rest)) size ∙ ap (λ (t : List ℕ). drop (length (pre ++ b ∷ [])) t) (sym (append_assoc pre (b ∷ []) rest)) ∙ drop-append_seam (pre ++ b ∷ []) rest) back,
    )

-- the byte is ASCII
abbrev is_ascii : ℕ → Bool
is_ascii b = nat_lt b 128

-- each byte is
abbrev all_ascii : List ℕ → Bool
all_ascii [] = true
all_ascii (b ∷ s) = is_ascii b && all_ascii s

-- an ASCII text is UTF-8
ascii_utf8 : (s : List ℕ) → Of is_ascii s → IsUtf8 s
ascii_utf8 [] h = IsUtf8-nil
ascii_utf8 (b ∷ s) h = behind_ascii [] s b (ltb-true b 128 h.0) IsUtf8-nil (ascii_utf8 s h.1)

-- what is behind an ASCII front of a UTF-8 text is UTF-8
past_ascii : (front more : List ℕ) → Of is_ascii front → IsUtf8 (front ++ more) → IsUtf8 more
past_ascii [] more h u = u
past_ascii (b ∷ front) more h u = past_ascii front more h.1 (parted [] (front ++ more) b (ltb-true b 128 h.0) u).1

-- a text over a set of ASCII bytes is ASCII
all_of : (test : ℕ → Bool) (s : List ℕ) → ((b : ℕ) → test b ≡ true → is_ascii b ≡ true) → Of test s → Of is_ascii s
all_of test [] f h = tt
all_of test (b ∷ s) f h = (f b h.0, all_of test s f h.1)

-- the text that is moved behind what comes before it
moved : (pre : List ℕ) (b : ℕ) (rest : List ℕ) → IsUtf8 (pre ++ b ∷ rest) → IsUtf8 ((pre ++ b ∷ []) ++ rest)
moved pre b rest u = subst (λ (t : List ℕ). IsUtf8 t) (sym (append_assoc pre (b ∷ []) rest)) u

-- a byte at the end of a front may be taken for the first of the rest
back : (pre : List ℕ) (b : ℕ) (rest : List ℕ) → IsUtf8 ((pre ++ b ∷ []) ++ rest) → IsUtf8 (pre ++ b ∷ rest)
back pre b rest u = subst (λ (t : List ℕ). IsUtf8 t) (append_assoc pre (b ∷ []) rest) u

-- ---- backslashes in single quotes

-- a backslash and a quote are ASCII
special_ascii : (b : ℕ) → special b ≡ true → b < 128
special_ascii b h = elim (or_cases (b == 92) (b == 39) h) [ inl e ↦ omega (arith, eqb-true b 92 e) | inr e ↦ omega (arith, eqb-true b 39 e) ]

-- an escaped text is UTF-8 where the text is
escaped_utf8 : (pre v : List ℕ) → IsUtf8 (pre ++ v) → IsUtf8 (pre ++ escaped v)
escaped_utf8 pre [] u = u
escaped_utf8 pre (b ∷ v) u = elim (must_escape b v) as (λ w. must_escape b v ≡ w → IsUtf8 (pre ++ (cond w (92 ∷ b ∷ []) (b ∷ []) ++ escaped v))) [
  | true ↦ λ e.
      let h = special_ascii b (must_special b v e) in
      let p = parted pre v b h u in
      behind_ascii pre (b ∷ escaped v) 92 (omega arith) p.0 (behind_ascii [] (escaped v) b h IsUtf8-nil (escaped_utf8 [] v p.1))
  | false ↦ λ e. back pre b (escaped v) (escaped_utf8 (pre ++ b ∷ []) v (moved pre b v u))
] refl

-- the value of a text in single quotes is UTF-8 where the text is
sq_utf8 : (pre raw : List ℕ) → IsUtf8 (pre ++ raw) → IsUtf8 (pre ++ sq_value raw)
sq_utf8 pre [] u = u
sq_utf8 pre (b ∷ []) u = elim (b == 92) as (λ w. (b == 92) ≡ w → IsUtf8 (pre ++ cond w (92 ∷ []) (b ∷ []))) [
  | true ↦ λ e. subst (λ n. IsUtf8 (pre ++ n ∷ [])) (eqb-true b 92 e) u
  | false ↦ λ e. u
] refl
sq_utf8 pre (b ∷ c ∷ raw) u = elim (b == 92) as (λ w. (b == 92) ≡ w → IsUtf8 (pre ++ cond w (cond ((c == 92) || (c == 39)) (c ∷ sq_value raw) (92 ∷ c ∷ sq_value raw)) (b ∷ sq_value (c ∷ raw)))) [
  | true ↦ λ e. elim ((c == 92) || (c == 39)) as (λ w. ((c == 92) || (c == 39)) ≡ w → IsUtf8 (pre ++ cond w (c ∷ sq_value raw) (92 ∷ c ∷ sq_value raw))) [
    | true ↦ λ f.
        let h = special_ascii c f in
        let p = parted pre (c ∷ raw) b (omega (arith, eqb-true b 92 e)) u in
        behind_ascii pre (sq_value raw) c h p.0 (sq_utf8 [] raw (parted [] raw c h p.1).1)
    | false ↦ λ f.
        let v : IsUtf8 (pre ++ 92 ∷ c ∷ raw) = subst (λ n. IsUtf8 (pre ++ n ∷ c ∷ raw)) (eqb-true b 92 e) u in
        back pre 92 (c ∷ sq_value raw) (back (pre ++ 92 ∷ []) c (sq_value raw) (sq_utf8 ((pre ++ 92 ∷ []) ++ c ∷ []) raw (moved (pre ++ 92 ∷ []) c raw (moved pre 92 (c ∷ raw) v))))
  ] refl
  | false ↦ λ e. back pre b (sq_value (c ∷ raw)) (sq_utf8 (pre ++ b ∷ []) (c ∷ raw) (moved pre b (c ∷ raw) u))
] refl

-- ---- escapes in double quotes

-- what is among ASCII bytes is one
any_ascii : (c : ℕ) (es : List ℕ) → Of is_ascii es → list_any (λ e. e == c) es ≡ true → is_ascii c ≡ true
any_ascii c [] h k = cc
any_ascii c (e ∷ es) h k = elim (or_cases (e == c) (list_any (λ e. e == c) es) k) [ inl f ↦ ap is_ascii (sym (eqb-true e c f)) ∙ h.0 | inr f ↦ any_ascii c es h.1 f ]

-- a byte that makes a simple escape is ASCII
simple_ascii : (c : ℕ) → is_simple_escape c ≡ true → is_ascii c ≡ true
simple_ascii c h = any_ascii c (codes "nrts$\"'\\") (refl, (refl, (refl, (refl, (refl, (refl, (refl, (refl, tt)))))))) h

-- so is one of two ASCII bytes
chosen : (v : Bool) (a b : ℕ) → is_ascii a ≡ true → is_ascii b ≡ true → is_ascii (cond v a b) ≡ true
chosen true a b h k = h
chosen false a b h k = k

-- what a simple escape stands for is ASCII
value_ascii : (c : ℕ) → is_ascii c ≡ true → is_ascii (simple_value c) ≡ true
value_ascii c h =
    chosen (c == 110) 10 (cond (c == 114) 13 (cond (c == 116) 9 (cond (c == 115) 32 c))) refl (chosen (c == 114) 13 (cond (c == 116) 9 (cond (c == 115) 32 c)) refl (chosen (c == 116) 9 (cond (c == 115) 32 c) refl (chosen (c == 115) 32 c refl h)))

-- a hexadecimal digit is ASCII
hex_ascii : (b : ℕ) → is_hex b ≡ true → is_ascii b ≡ true
hex_ascii b h = grind (arith, nat_tests)

-- a character is UTF-8
scalar_utf8 : (n : ℕ) → is_scalar n ≡ true → IsUtf8 (encode_utf8 n)
scalar_utf8 n h = IsUtf8-encode n (grind (arith, nat_tests))

-- The text behind a backslash is ASCII, and the escape stands for UTF-8.
escape_utf8 : (value front : List ℕ) → EscapeOf value front → IsUtf8 value × Of is_ascii front
escape_utf8 value front (simple c f h v) = (
  subst (λ (t : List ℕ). IsUtf8 t) (sym v) (ascii_one (simple_value c) (ltb-true (simple_value c) 128 (value_ascii c (simple_ascii c h)))),
  subst (λ (t : List ℕ). Of is_ascii t) (sym f) (simple_ascii c h, tt),
)
escape_utf8 value front (four digits f size h s v) = (
  subst (λ (t : List ℕ). IsUtf8 t) (sym v) (scalar_utf8 (hex_value digits) s),
  subst (λ (t : List ℕ). Of is_ascii t) (sym f) (refl, all_of is_hex digits hex_ascii h),
)
escape_utf8 value front (braced digits f least most h s v) = (
  subst (λ (t : List ℕ). IsUtf8 t) (sym v) (scalar_utf8 (hex_value digits) s),
  subst (λ (t : List ℕ). Of is_ascii t) (sym f) (refl, (refl, Of-append is_ascii digits (125 ∷ []) (all_of is_hex digits hex_ascii h) (refl, tt))),
)

-- the value of a text in double quotes is UTF-8 where the text is
dq_utf8 : (pre value raw : List ℕ) → DqOf value raw → IsUtf8 (pre ++ raw) → IsUtf8 (pre ++ value)
dq_utf8 pre value raw (nothing v r) u = subst (λ (t : List ℕ). IsUtf8 (pre ++ t)) (r ∙ sym v) u
dq_utf8 pre value raw (plain b rest more v r n d) u =
    subst (λ (t : List ℕ). IsUtf8 (pre ++ t)) (sym v) (back pre b rest (dq_utf8 (pre ++ b ∷ []) rest more d (moved pre b more (subst (λ (t : List ℕ). IsUtf8 (pre ++ t)) r u))))
dq_utf8 pre value raw (escape here rest front more v r e d) u =
    let x = escape_utf8 here front e in
    let p = parted pre (front ++ more) 92 (omega arith) (subst (λ (t : List ℕ). IsUtf8 (pre ++ t)) r u) in
    subst (λ (t : List ℕ). IsUtf8 (pre ++ t)) (sym v) (IsUtf8-append pre (here ++ rest) p.0 (IsUtf8-append here rest x.0 (dq_utf8 [] rest more d (past_ascii front more x.1 p.1))))
dq_utf8 pre value raw (backslash rest more v r n d) u =
    subst (λ (t : List ℕ). IsUtf8 (pre ++ t)) (sym v) (back pre 92 rest (dq_utf8 (pre ++ 92 ∷ []) rest more d (moved pre 92 more (subst (λ (t : List ℕ). IsUtf8 (pre ++ t)) r u))))

-- ---- what tokens stand for

-- the value of a text with its single quotes is UTF-8 where the text is
quoted_value : (s : List ℕ) → IsUtf8 s → (value : List ℕ) → SqOf value s → IsUtf8 value
quoted_value s u value h =
    let inner = (parted [] (h.0 ++ 39 ∷ []) 39 (omega arith) (subst (λ (t : List ℕ). IsUtf8 t) h.1 u)).1 in
    subst (λ (t : List ℕ). IsUtf8 t) (sym h.2) (sq_utf8 [] h.0 (parted h.0 [] 39 (omega arith) inner).0)

-- what a UTF-8 token stands for is UTF-8
good_token : (k : Kind) (s : List ℕ) → IsUtf8 s → GoodToken (λ t. IsUtf8 t) k s
good_token kind.Sq s u = quoted_value s u
good_token kind.DqText s u = λ value h. dq_utf8 [] value s h u
good_token kind.Word s u = u
good_token kind.Ref s u = tt
good_token kind.Var s u = tt
good_token kind.Int s u = tt
good_token kind.Float s u = tt
good_token kind.DqOpen s u = tt
good_token kind.DqVar s u = tt
good_token kind.Hole s u = tt
good_token kind.HoleEnd s u = tt
good_token kind.DqClose s u = tt
good_token kind.Tight s u = tt
good_token kind.Loose s u = tt
good_token kind.Keyword s u = tt
good_token kind.Sign s u = tt
good_token kind.LeftOut s u = tt

-- each token's text is UTF-8
abbrev AllUtf8 : List Lexeme → Type 0
AllUtf8 ts = AllByRecursion (λ t. IsUtf8 t.text) ts

-- what such tokens stand for is UTF-8
good_tokens : (ts : List Lexeme) → AllUtf8 ts → AllByRecursion (λ t. GoodToken (λ s. IsUtf8 s) t.kind t.text) ts
good_tokens [] h = tt
good_tokens (t ∷ ts) h = (good_token t.kind t.text h.0, good_tokens ts h.1)

-- ---- words

-- letters, digits and `_` are ASCII
name_byte : (b : ℕ) → is_name b ≡ true → is_ascii b ≡ true
name_byte b h = grind (arith, nat_tests)

-- so are the bytes that go on with a name
ascii_goes_on : (how : Style) (b : ℕ) → goes_on how b ≡ true → is_ascii b ≡ true
ascii_goes_on style.Word b h = elim (or_cases (is_name b) (b == 45) h) [ inl e ↦ name_byte b e | inr e ↦ ap is_ascii (eqb-true b 45 e) ]
ascii_goes_on style.Ref b h = name_byte b h
ascii_goes_on style.Var b h = name_byte b h

-- so are those that begin one
ascii_begins : (how : Style) (b : ℕ) → begins how b ≡ true → is_ascii b ≡ true
ascii_begins style.Word b h = grind (arith, nat_tests)
ascii_begins style.Ref b h = grind (arith, nat_tests)
ascii_begins style.Var b h = grind (arith, nat_tests)

-- a segment of a name is ASCII
segment_ascii : (how : Style) (s : List ℕ) → Segment how s → Of is_ascii s
segment_ascii how [] h = absurd h
segment_ascii how (b ∷ s) h = (ascii_begins how b h.0, all_of (goes_on how) s (ascii_goes_on how) h.1)

-- segments with `::` between them are
joined_ascii : (how : Style) (s : List ℕ) → Joined how s → Of is_ascii s
joined_ascii how s (one h) = segment_ascii how s h
joined_ascii how s (another front rest h more e) = subst (λ (t : List ℕ). Of is_ascii t) (sym e) (Of-append is_ascii front (58 ∷ 58 ∷ rest) (segment_ascii how front h) (refl, (refl, joined_ascii how rest more)))

-- a name is ASCII
name_ascii : (how : Style) (s : List ℕ) → Name how s → Of is_ascii s
name_ascii how s (inl h) = joined_ascii how s h
name_ascii how s (inr h) = subst (λ (t : List ℕ). Of is_ascii t) (sym h.1) (refl, (refl, joined_ascii how h.0 h.2))

-- digits are ASCII
digit_ascii : (b : ℕ) → is_digit b ≡ true → is_ascii b ≡ true
digit_ascii b h = grind (arith, nat_tests)

-- octal digits are
octal_ascii : (b : ℕ) → is_octal b ≡ true → is_ascii b ≡ true
octal_ascii b h = grind (arith, nat_tests)

-- one or more bytes of a set of ASCII bytes are ASCII
some_ascii : (test : ℕ → Bool) (s : List ℕ) → ((b : ℕ) → test b ≡ true → is_ascii b ≡ true) → SomeOf test s → Of is_ascii s
some_ascii test [] f h = absurd h
some_ascii test (b ∷ s) f h = (f b h.0, all_of test s f h.1)

-- an INT is ASCII
int_ascii : (s : List ℕ) → IntText s → Of is_ascii s
int_ascii s (only_zero e) = subst (λ (t : List ℕ). Of is_ascii t) (sym e) (refl, tt)
int_ascii s (decimal b more e n h d) = subst (λ (t : List ℕ). Of is_ascii t) (sym e) (digit_ascii b h, all_of is_digit more digit_ascii d)
int_ascii s (octal more e h) = subst (λ (t : List ℕ). Of is_ascii t) (sym e) (refl, some_ascii is_octal more octal_ascii h)
int_ascii s (hexadecimal x more e (inl f) h) = subst (λ (t : List ℕ). Of is_ascii t) (sym e) (refl, (ap is_ascii f, some_ascii is_hex more hex_ascii h))
int_ascii s (hexadecimal x more e (inr f) h) = subst (λ (t : List ℕ). Of is_ascii t) (sym e) (refl, (ap is_ascii f, some_ascii is_hex more hex_ascii h))

-- a text that is told to be ASCII is
spread : (s : List ℕ) → all_ascii s ≡ true → Of is_ascii s
spread [] h = tt
spread (b ∷ s) h = let p = and_parts (is_ascii b) (all_ascii s) h in (p.0, spread s p.1)

-- each text of a table is ASCII
abbrev each_ascii : List (List ℕ) → Bool
each_ascii [] = true
each_ascii (t ∷ texts) = all_ascii t && each_ascii texts

-- what is among ASCII texts is one
one_ascii : (texts : List (List ℕ)) (s : List ℕ) → each_ascii texts ≡ true → is_among texts s ≡ true → all_ascii s ≡ true
one_ascii [] s all h = cc
one_ascii (t ∷ texts) s all h = elim (or_cases (bytes_eq t s) (is_among texts s) h) [
  | inl e ↦ ap all_ascii (sym ((bytes_eq-Decides t s).0 e)) ∙ (and_parts (all_ascii t) (each_ascii texts) all).0
  | inr more ↦ one_ascii texts s (and_parts (all_ascii t) (each_ascii texts) all).1 more
]

-- and so is UTF-8
among_utf8 : (texts : List (List ℕ)) (s : List ℕ) → each_ascii texts ≡ true → is_among texts s ≡ true → IsUtf8 s
among_utf8 texts s all h = ascii_utf8 s (spread s (one_ascii texts s all h))

-- a text that is an ASCII text is UTF-8
written : (s t : List ℕ) → s ≡ t → Of is_ascii t → IsUtf8 s
written s t e h = subst (λ (r : List ℕ). IsUtf8 r) (sym e) (ascii_utf8 t h)

-- a word that may stand is UTF-8, if what is quoted in it is
word_utf8 : (st : List Mark) (l : Last) (k : Kind) (s : List ℕ) → May st l k s → GoodWord (λ t. IsUtf8 t) k s → IsUtf8 s
word_utf8 st l kind.Word s h g = ascii_utf8 s (name_ascii style.Word s h.1.0)
word_utf8 st l kind.Keyword s h g = among_utf8 keywords s refl h.1
word_utf8 st l kind.Ref s h g = ascii_utf8 s (name_ascii style.Ref s h.1)
word_utf8 st l kind.Var s h g = written s (36 ∷ h.1.0) h.1.1 (refl, name_ascii style.Var h.1.0 h.1.2)
word_utf8 st l kind.Int s h g = ascii_utf8 s (int_ascii s h.1)
word_utf8 st l kind.Sq s h g = subst (λ (t : List ℕ). IsUtf8 t) (sym g.1) (behind_ascii [] (escaped g.0 ++ 39 ∷ []) 39 (omega arith) IsUtf8-nil (behind_ascii (escaped g.0) [] 39 (omega arith) (escaped_utf8 [] g.0 g.2) IsUtf8-nil))
word_utf8 st l kind.Sign s h g = among_utf8 signs s refl h.1.among
word_utf8 st l kind.DqOpen s h g = written s (codes "\"") h.1 (refl, tt)
word_utf8 st l kind.Hole s h g = written s (codes "${") h.2 (refl, (refl, tt))
word_utf8 st l kind.HoleEnd s h g = written s (codes "}") h.1 (refl, tt)
word_utf8 st l kind.DqClose s h g = written s (codes "\"") h.2 (refl, tt)
word_utf8 st l kind.Tight s h g = written s (codes "[") h.2 (refl, tt)
word_utf8 st l kind.Loose s h g = written s (codes "[") h.1 (refl, tt)
word_utf8 st l kind.Float s h g = absurd h
word_utf8 st l kind.DqText s h g = absurd h
word_utf8 st l kind.DqVar s h g = absurd h
word_utf8 st l kind.LeftOut s h g = absurd h

-- a space, or none, is UTF-8
space_utf8 : (v : Bool) → IsUtf8 (cond v [] (32 ∷ []))
space_utf8 true = IsUtf8-nil
space_utf8 false = ascii_one 32 (omega arith)

-- the text of words that may stand is UTF-8, if what is quoted in them is
words_utf8 : (held : Bool) (ws : List Word) (st st2 : List Mark) (l l2 : Last) → Walks st l ws st2 l2 → AllGood (λ t. IsUtf8 t) ws → IsUtf8 (text_from held ws)
words_utf8 held [] st st2 l l2 h g = IsUtf8-nil
words_utf8 held (w ∷ ws) st st2 l l2 h g =
    IsUtf8-append (cond (held || clings w.kind) [] (32 ∷ [])) (w.text ++ text_from (holds w.kind) ws) (space_utf8 (held || clings w.kind))
    (IsUtf8-append w.text (text_from (holds w.kind) ws) (word_utf8 st l w.kind w.text h.0 g.0) (words_utf8 (holds w.kind) ws (opened_by w.kind w.text st) st2 (last_of l w.kind w.text) l2 h.1 g.1))

-- the canonical text of what a UTF-8 text spells is UTF-8
pub canonical_utf8 : ((text : List ℕ) (tokens : List Lexeme) → IsUtf8 text → Spells text tokens → AllUtf8 tokens) → (m : Manifest) (text : List ℕ) (tokens : List Lexeme) → IsUtf8 text → Spells text tokens → IsManifest m tokens → IsUtf8 (canonical m)
canonical_utf8 utf8 m text tokens u h d =
    let fine : Fine (λ t. IsUtf8 t) tokens = record { sound = all_sound text tokens h; good = good_tokens tokens (utf8 text tokens u h); empty = IsUtf8-nil } in
    let r = manifest_good (λ t. IsUtf8 t) m tokens d fine in
    words_utf8 true (manifest_words m) [] [] _ r.0.0 r.0.1 r.1
