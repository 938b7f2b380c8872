-- A token, a blank and a comment end where a text may be cut.
use Rattle.std.proofs.Common.{◌≡◌, ◌≢◌, ◌⊎◌, inl, inr, ℕ, zero, suc, ◌+◌, ◌-◌, ◌<◌, Bool, true, false, cond, ◌==◌, nat_lt, List, [], ◌∷◌, ◌++◌, length, get_or, Option, Some, None, refl, sym, ap, subst, ◌∙◌, arith, length-append}
use Rattle.std.specs.Prelude.{IsUtf8, IsCharBoundary}
use Rattle.std.proofs.lemmas.Str.{IsCharBoundary-end, IsCharBoundary-before_ascii, IsCharBoundary-after_ascii}
use Rattle.std.proofs.lemmas.Bool.{or_cases, eqb-true, ltb-true}
use Rattle.std.proofs.lemmas.Bool.Decides.{nat_tests}
use Rattle.pp_syntax.specs.declared.token.Kind.{Kind}
use Rattle.pp_syntax.specs.declared.token.Kind.TheVariants as kind
use Rattle.pp_syntax.specs.declared.lexer.bytes.Style.{Style}
use Rattle.pp_syntax.specs.declared.lexer.bytes.Style.TheVariants as style
use Rattle.pp_syntax.specs.Bytes.{is_blank, is_digit, is_octal, is_hex, is_name}
use Rattle.pp_syntax.specs.Tokens.{Of, SomeOf, begins, goes_on, Segment, Joined, one, another, Name, is_among, keywords, signs, left_out, IntText, only_zero, decimal, octal, hexadecimal, FloatText, Spelling, InQuotes}
use Rattle.pp_syntax.specs.Spelling.{ToClose, close, more, AtLineEnd, IsGap, blank, line, block}
use Rattle.pp_syntax.specs.Scanning.{Found, of_kind, or_else, name, hole, piece, escape_len, opens, unit_len, past_unit, text_from, quoted_token}
use Rattle.pp_syntax.specs.Scanning as scanning
use Rattle.pp_syntax.proofs.Names.{Of-append}
use Rattle.pp_syntax.proofs.Signs.{all_pass, of_each, either_found}
use Rattle.std.proofs.lemmas.Option.{cond_some}

-- the last byte is ASCII
abbrev pub LastAscii : List ℕ → Type 0
LastAscii [] = ⊥
LastAscii (b ∷ []) = b < 128
LastAscii (b ∷ c ∷ s) = LastAscii (c ∷ s)

-- the first byte, if there is one, is ASCII
abbrev pub FirstAscii : List ℕ → Type 0
FirstAscii [] = Unit {0}
FirstAscii (b ∷ s) = b < 128

-- an ASCII byte stands before the cut, or behind it unless the text ends
abbrev pub Seam : List ℕ → List ℕ → Type 0
Seam front rest = LastAscii front ⊎ FirstAscii rest

-- ---- where a text may be cut

-- the byte before the end of the front is ASCII
last_at : (front rest : List ℕ) → LastAscii front → (i : ℕ) × (length front ≡ i + 1) × (get_or (front ++ rest) i 0 < 128)
last_at [] rest h = absurd h
last_at (b ∷ []) rest h = (0, refl, h)
last_at (b ∷ c ∷ s) rest h = let l = last_at (c ∷ s) rest h in (suc l.0, omega (arith, l.1), l.2)

-- the byte behind the front is the first of the rest
pub first_at : (front rest : List ℕ) (b : ℕ) → get_or (front ++ b ∷ rest) (length front) 0 ≡ b
first_at [] rest b = refl
first_at (c ∷ front) rest b = first_at front rest b

-- a UTF-8 text may be cut at a seam
at_seam : (front rest : List ℕ) → IsUtf8 (front ++ rest) → Seam front rest → IsCharBoundary (front ++ rest) (length front)
at_seam front rest u (inl h) =
    let l = last_at front rest h in
    subst (λ n. IsCharBoundary (front ++ rest) n) (sym l.1) (IsCharBoundary-after_ascii (front ++ rest) l.0 u (omega (arith, l.1, length-append front rest)) l.2)
at_seam front [] u (inr h) = subst (λ n. IsCharBoundary (front ++ []) n) (omega (arith, length-append front [])) (IsCharBoundary-end (front ++ []))
at_seam front (b ∷ rest) u (inr h) = IsCharBoundary-before_ascii (front ++ b ∷ rest) (length front) (omega (arith, length-append front (b ∷ rest))) (omega (arith, first_at front rest b, h))

-- so it may where a rest begins at a seam
pub boundary : (text front rest : List ℕ) → IsUtf8 text → text ≡ front ++ rest → Seam front rest → IsCharBoundary text (length text - length rest)
boundary text front rest u e h =
    let size : length front ≡ length text - length rest = omega (arith, ap length e, length-append front rest) in
    subst (λ n. IsCharBoundary text n) size (subst (λ (t : List ℕ). IsCharBoundary t (length front)) (sym e) (at_seam front rest (subst (λ (t : List ℕ). IsUtf8 t) e u) h))

-- ---- ASCII texts

-- the byte is ASCII
abbrev is_ascii : ℕ → Bool
is_ascii b = nat_lt b 128

-- of ASCII bytes the last is ASCII
all_ascii : (b : ℕ) (s : List ℕ) → is_ascii b ≡ true → Of is_ascii s → LastAscii (b ∷ s)
all_ascii b [] h all = ltb-true b 128 h
all_ascii b (c ∷ s) h all = all_ascii c s all.0 all.1

-- letters, digits and `_` are ASCII
ascii_name : (b : ℕ) → is_name b ≡ true → is_ascii b ≡ true
ascii_name b h = grind (arith, nat_tests)

-- so are the bytes that go on with a name
ascii_goes_on : (how : Style) (b : ℕ) → goes_on how b ≡ true → is_ascii b ≡ true
ascii_goes_on style.Word b h = elim (or_cases (is_name b) (b == 45) h) [ inl e ↦ ascii_name b e | inr e ↦ ap is_ascii (eqb-true b 45 e) ]
ascii_goes_on style.Ref b h = ascii_name b h
ascii_goes_on style.Var b h = ascii_name b h

-- so are those that begin one
ascii_begins : (how : Style) (b : ℕ) → begins how b ≡ true → is_ascii b ≡ true
ascii_begins style.Word b h = grind (arith, nat_tests)
ascii_begins style.Ref b h = grind (arith, nat_tests)
ascii_begins style.Var b h = grind (arith, nat_tests)

-- a text over a set of ASCII bytes is ASCII
all_of : (test : ℕ → Bool) (s : List ℕ) → ((b : ℕ) → test b ≡ true → is_ascii b ≡ true) → Of test s → Of is_ascii s
all_of test [] f h = tt
all_of test (b ∷ s) f h = (f b h.0, all_of test s f h.1)

-- a segment of a name is ASCII
segment_ascii : (how : Style) (s : List ℕ) → Segment how s → Of is_ascii s
segment_ascii how [] h = absurd h
segment_ascii how (b ∷ s) h = (ascii_begins how b h.0, all_of (goes_on how) s (ascii_goes_on how) h.1)

-- segments with `::` between them are
joined_ascii : (how : Style) (s : List ℕ) → Joined how s → Of is_ascii s
joined_ascii how s (one h) = segment_ascii how s h
joined_ascii how s (another front back h rest e) = subst (λ (t : List ℕ). Of is_ascii t) (sym e) (Of-append is_ascii front (58 ∷ 58 ∷ back) (segment_ascii how front h) (refl, (refl, joined_ascii how back rest)))

-- a name is ASCII
name_ascii : (how : Style) (s : List ℕ) → Name how s → Of is_ascii s
name_ascii how s (inl h) = joined_ascii how s h
name_ascii how s (inr h) = subst (λ (t : List ℕ). Of is_ascii t) (sym h.1) (refl, (refl, joined_ascii how h.0 h.2))

-- segments with `::` between them aren't empty
joined_some : (how : Style) (s : List ℕ) → Joined how s → s ≢ []
joined_some how [] (one h) e = absurd h
joined_some how (b ∷ s) (one h) e = cc
joined_some how s (another [] back h rest e) f = absurd h
joined_some how s (another (b ∷ front) back h rest e) f = let g : ◌≡◌ {A = List ℕ} (b ∷ front ++ (58 ∷ 58 ∷ back)) [] = sym e ∙ f in cc

-- no name is empty
name_some : (how : Style) (s : List ℕ) → Name how s → s ≢ []
name_some how s (inl h) e = joined_some how s h e
name_some how s (inr h) e = let f : ◌≡◌ {A = List ℕ} (58 ∷ 58 ∷ h.0) [] = sym h.1 ∙ e in cc

-- an ASCII text that isn't empty has an ASCII byte last
ascii_last : (s : List ℕ) → s ≢ [] → Of is_ascii s → LastAscii s
ascii_last [] n h = absurd (n refl)
ascii_last (b ∷ s) n h = all_ascii b s h.0 h.1

-- a name has an ASCII byte last
pub name_last : (how : Style) (s : List ℕ) → Name how s → LastAscii s
name_last how s h = ascii_last s (name_some how s h) (name_ascii how s h)

-- a byte in front leaves the last byte ASCII
behind_byte : (b : ℕ) (s : List ℕ) → LastAscii s → LastAscii (b ∷ s)
behind_byte b [] h = absurd h
behind_byte b (c ∷ s) h = h

-- so does a text in front
last_append : (s t : List ℕ) → LastAscii t → LastAscii (s ++ t)
last_append [] t h = h
last_append (b ∷ s) t h = behind_byte b (s ++ t) (last_append s t h)

-- digits are ASCII
ascii_digit : (b : ℕ) → is_digit b ≡ true → is_ascii b ≡ true
ascii_digit b h = grind (arith, nat_tests)

-- octal digits are
ascii_octal : (b : ℕ) → is_octal b ≡ true → is_ascii b ≡ true
ascii_octal b h = grind (arith, nat_tests)

-- hexadecimal digits are
ascii_hex : (b : ℕ) → is_hex b ≡ true → is_ascii b ≡ true
ascii_hex b h = grind (arith, nat_tests)

-- one or more bytes of a set of ASCII bytes have an ASCII byte last
some_last : (test : ℕ → Bool) (s : List ℕ) → ((b : ℕ) → test b ≡ true → is_ascii b ≡ true) → SomeOf test s → LastAscii s
some_last test [] f h = absurd h
some_last test (b ∷ s) f h = all_ascii b s (f b h.0) (all_of test s f h.1)

-- an INT has an ASCII byte last
int_last : (s : List ℕ) → IntText s → LastAscii s
int_last s (only_zero e) = subst (λ (t : List ℕ). LastAscii t) (sym e) (omega arith)
int_last s (decimal b m e n d h) = subst (λ (t : List ℕ). LastAscii t) (sym e) (all_ascii b m (ascii_digit b d) (all_of is_digit m ascii_digit h))
int_last s (octal m e h) = subst (λ (t : List ℕ). LastAscii t) (sym e) (behind_byte 48 m (some_last is_octal m ascii_octal h))
int_last s (hexadecimal x m e is h) = subst (λ (t : List ℕ). LastAscii t) (sym e) (behind_byte 48 (x ∷ m) (behind_byte x m (some_last is_hex m ascii_hex h)))

-- a FLOAT has
float_last : (s : List ℕ) → FloatText s → LastAscii s
float_last s h = subst (λ (t : List ℕ). LastAscii t) (sym h.parts) (last_append h.whole (46 ∷ h.fraction) (behind_byte 46 h.fraction (some_last is_digit h.fraction ascii_digit h.fraction_digits)))

-- a table of ASCII texts
abbrev ends_ascii : List ℕ → Bool
ends_ascii [] = false
ends_ascii (b ∷ []) = is_ascii b
ends_ascii (b ∷ c ∷ s) = ends_ascii (c ∷ s)

-- a text that is told to end so has an ASCII byte last
ends_last : (s : List ℕ) → ends_ascii s ≡ true → LastAscii s
ends_last [] h = cc
ends_last (b ∷ []) h = ltb-true b 128 h
ends_last (b ∷ c ∷ s) h = ends_last (c ∷ s) h

-- a text of such a table has an ASCII byte last
among_last : (texts : List (List ℕ)) (s : List ℕ) → all_pass ends_ascii texts ≡ true → is_among texts s ≡ true → LastAscii s
among_last texts s all h = ends_last s (of_each ends_ascii texts s all h)

-- ---- tokens outside of double quotes

-- each spelling outside of double quotes has an ASCII byte last
pub code_last : (k : Kind) (s : List ℕ) → Spelling k s → LastAscii s
code_last kind.Word s h = name_last style.Word s h.0
code_last kind.Ref s h = name_last style.Ref s h
code_last kind.Var s h = subst (λ (t : List ℕ). LastAscii t) (sym h.1) (behind_byte 36 h.0 (name_last style.Var h.0 h.2))
code_last kind.Int s h = int_last s h
code_last kind.Float s h = float_last s h
code_last kind.Sq s h = subst (λ (t : List ℕ). LastAscii t) (sym h.1) (behind_byte 39 (h.0 ++ 39 ∷ []) (last_append h.0 (39 ∷ []) (omega arith)))
code_last kind.DqOpen s h = subst (λ (t : List ℕ). LastAscii t) (sym h) (omega arith)
code_last kind.Keyword s h = among_last keywords s refl h
code_last kind.Sign s h = among_last signs s refl h
code_last kind.LeftOut s h = among_last left_out s refl h
code_last kind.DqText s h = absurd h
code_last kind.DqVar s h = absurd h
code_last kind.Hole s h = absurd h
code_last kind.HoleEnd s h = absurd h
code_last kind.DqClose s h = absurd h
code_last kind.Tight s h = absurd h
code_last kind.Loose s h = absurd h

-- ---- blanks and comments

-- a block comment has an ASCII byte last
close_last : (s : List ℕ) → ToClose s → LastAscii s
close_last s (close e) = subst (λ (t : List ℕ). LastAscii t) (sym e) (omega arith)
close_last s (more b rest e n h) = subst (λ (t : List ℕ). LastAscii t) (sym e) (behind_byte b rest (close_last rest h))

-- what follows a line comment begins with an ASCII byte, if it has one
line_first : (rest : List ℕ) → AtLineEnd rest → FirstAscii rest
line_first [] h = tt
line_first (b ∷ rest) h = omega (arith, h)

-- a blank is ASCII
ascii_blank : (b : ℕ) → is_blank b ≡ true → b < 128
ascii_blank b h = grind (arith, nat_tests)

-- behind a gap is a seam
pub gap_seam : (s rest : List ℕ) → IsGap s rest → Seam s rest
gap_seam s rest (blank b e h) = inl (subst (λ (t : List ℕ). LastAscii t) (sym e) (ascii_blank b h))
gap_seam s rest (line body e h end) = inr (line_first rest end)
gap_seam s rest (block body e h) = inl (subst (λ (t : List ℕ). LastAscii t) (sym e) (behind_byte 47 (42 ∷ body) (behind_byte 42 body (close_last body h))))

-- ---- tokens in double quotes

-- Text in double quotes stops before an ASCII byte.
stop_first : (b : ℕ) (text : List ℕ) → unit_len b text ≡ None → b < 128
unfolding unit_len
stop_first b text h = elim (b == 34) as (λ v. (b == 34) ≡ v → cond v None (cond (b == 36) (cond (opens text) None (Some 0)) (cond (b == 92) (escape_len text) (Some 0))) ≡ None → b < 128) [
  | true ↦ λ e k. omega (arith, eqb-true b 34 e)
  | false ↦ λ e k. elim (b == 36) as (λ v. (b == 36) ≡ v → cond v (cond (opens text) None (Some 0)) (cond (b == 92) (escape_len text) (Some 0)) ≡ None → b < 128) [
    | true ↦ λ f l. omega (arith, eqb-true b 36 f)
    | false ↦ λ f l. elim (b == 92) as (λ v. (b == 92) ≡ v → cond v (escape_len text) (Some 0) ≡ None → b < 128) [
      | true ↦ λ g m. omega (arith, eqb-true b 92 g)
      | false ↦ λ g m. cc
    ] refl l
  ] refl k
] refl h

-- what is left behind text in double quotes begins with an ASCII byte, if it has one
pub text_first : (n : ℕ) (text : List ℕ) → FirstAscii (text_from n text)
text_first zero [] = tt
text_first (suc n) [] = tt
text_first (suc n) (b ∷ text) = text_first n text
text_first zero (b ∷ text) = elim (unit_len b text) as (λ r. unit_len b text ≡ r → FirstAscii (past_unit (λ n. text_from n text) (b ∷ text) r)) [
  | None ↦ λ e. stop_first b text e
  | Some n ↦ λ e. text_first n text
] refl

-- A piece of text goes up to an ASCII byte.
abbrev PieceFirst : Found → Type 0
PieceFirst found = (rest : List ℕ) → found ≡ Some (kind.DqText, rest) → FirstAscii rest

-- what is left behind a piece of text that is found begins with an ASCII byte, if it has one
piece_first : (text : List ℕ) → PieceFirst (piece text)
unfolding piece
piece_first text rest h =
    let c = cond_some (nat_lt (length (text_from 0 text)) (length text)) (kind.DqText, text_from 0 text) (kind.DqText, rest) h in
    subst (λ (t : List ℕ). FirstAscii t) (ap (λ (y : Kind × List ℕ). y.1) c.1) (text_first 0 text)

-- what is found as another kind is no text, so nothing is asked of it
other_first : (k : Kind) (r : Option (List ℕ)) → k ≢ kind.DqText → PieceFirst (of_kind k r)
other_first k None n rest h = cc
other_first k (Some t) n rest h = absurd (n (ap (λ (y : Kind × List ℕ). y.0) (some_same h)))
  where
    some_same : {x y : Kind × List ℕ} → ◌≡◌ {A = Found} (Some x) (Some y) → x ≡ y
    some_same {x} {y} e = cc

-- what is left behind text that begins with a `$` begins with an ASCII byte, if it has one
dollar_first : (text : List ℕ) → PieceFirst (scanning.dollar text)
unfolding scanning.dollar
dollar_first text rest h = elim (either_found (of_kind kind.Hole (hole text)) (or_else (of_kind kind.DqVar (name style.Var text)) (piece (36 ∷ text))) (kind.DqText, rest) h) [
  | inl e ↦ other_first kind.Hole (hole text) (λ f. cc) rest e
  | inr e ↦ elim (either_found (of_kind kind.DqVar (name style.Var text)) (piece (36 ∷ text)) (kind.DqText, rest) e.1) [
    | inl f ↦ other_first kind.DqVar (name style.Var text) (λ g. cc) rest f
    | inr f ↦ piece_first (36 ∷ text) rest f.1
  ]
]

-- so does what is left behind text that is found within double quotes
pub quoted_first : (text : List ℕ) → PieceFirst (quoted_token text)
unfolding quoted_token
quoted_first [] rest h = cc
quoted_first (b ∷ text) rest h = elim (b == 34) as (λ v. cond v (Some (kind.DqClose, text)) (cond (b == 36) (scanning.dollar text) (piece (b ∷ text))) ≡ Some (kind.DqText, rest) → FirstAscii rest) [
  | true ↦ λ k. other_first kind.DqClose (Some text) (λ f. cc) rest k
  | false ↦ λ k. elim (b == 36) as (λ v. cond v (scanning.dollar text) (piece (b ∷ text)) ≡ Some (kind.DqText, rest) → FirstAscii rest) [
    | true ↦ λ l. dollar_first text rest l
    | false ↦ λ l. piece_first (b ∷ text) rest l
  ] k
] h

-- behind a token within double quotes is a seam
pub quoted_seam : (k : Kind) (text s rest : List ℕ) → quoted_token text ≡ Some (k, rest) → InQuotes k s rest → Seam s rest
quoted_seam kind.DqText text s rest e h = inr (quoted_first text rest e)
quoted_seam kind.DqVar text s rest e h = inl (subst (λ (t : List ℕ). LastAscii t) (sym h.1) (behind_byte 36 h.0 (name_last style.Var h.0 h.2)))
quoted_seam kind.Hole text s rest e h = inl (subst (λ (t : List ℕ). LastAscii t) (sym h) (omega arith))
quoted_seam kind.DqClose text s rest e h = inl (subst (λ (t : List ℕ). LastAscii t) (sym h) (omega arith))
quoted_seam kind.Word text s rest e h = absurd h
quoted_seam kind.Ref text s rest e h = absurd h
quoted_seam kind.Var text s rest e h = absurd h
quoted_seam kind.Int text s rest e h = absurd h
quoted_seam kind.Float text s rest e h = absurd h
quoted_seam kind.Sq text s rest e h = absurd h
quoted_seam kind.DqOpen text s rest e h = absurd h
quoted_seam kind.Keyword text s rest e h = absurd h
quoted_seam kind.Sign text s rest e h = absurd h
quoted_seam kind.LeftOut text s rest e h = absurd h
quoted_seam kind.HoleEnd text s rest e h = absurd h
quoted_seam kind.Tight text s rest e h = absurd h
quoted_seam kind.Loose text s rest e h = absurd h
