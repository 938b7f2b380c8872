-- A spelling that is set apart from what is behind it is a token.
use Rattle.std.proofs.Common.{◌≡◌, ◌≢◌, ◌⊎◌, inl, inr, ℕ, ◌≤◌, Bool, true, false, ◌&&◌, ◌||◌, ◌==◌, not, List, [], ◌∷◌, ◌++◌, length, refl, sym, ap, subst, ◌∙◌, arith, append_assoc, length-append}
use Rattle.std.specs.Prelude.{codes}
use Rattle.std.specs.List.{list_all}
use Rattle.std.proofs.lemmas.Bool.{ne_eqb, and_parts, both_ways, not-true, eqb-false}
use Rattle.pp_syntax.specs.declared.token.Kind.{Kind}
use Rattle.pp_syntax.specs.declared.token.Kind.TheVariants as kind
use Rattle.pp_syntax.specs.declared.lexer.place.Place.{Place}
use Rattle.pp_syntax.specs.declared.lexer.bytes.Style.{Style}
use Rattle.pp_syntax.specs.declared.lexer.bytes.Style.TheVariants as style
use Rattle.pp_syntax.specs.Bytes.{is_digit, is_octal, is_hex}
use Rattle.pp_syntax.specs.Opened.{in_quotes}
use Rattle.pp_syntax.specs.Tokens.{Of, SomeOf, begins, goes_on, Segment, Joined, one, another, Name, keywords, signs, left_out, is_among, IntText, only_zero, decimal, octal, hexadecimal, FloatText, SqText, Spelling, DqPiece, nothing, plain, dollar, escape, backslash, InQuotes}
use Rattle.pp_syntax.specs.Spelling.{NoComment, IsLongest, NumberStands, kind_at, TokenAt}
use Rattle.pp_syntax.specs.SetApart.{IsSetApart}
use Rattle.pp_syntax.proofs.Names.{Of-append}
use Rattle.pp_syntax.proofs.Signs.{all_pass, of_each}

-- equal texts begin with the same byte
head_is : (b c : ℕ) (s t : List ℕ) → b ∷ s ≡ c ∷ t → b ≡ c
head_is b c s t e = cc

-- and have the same rest
tail_is : (b c : ℕ) (s t : List ℕ) → b ∷ s ≡ c ∷ t → s ≡ t
tail_is b c s t e = cc

-- Different bytes begin different texts.
heads_clash : (b c : ℕ) (s t : List ℕ) → (b == c) ≡ false → b ∷ s ≡ c ∷ t → ⊥
heads_clash b c s t n e = eqb-false b c n (head_is b c s t e)

-- no byte is two that differ
clash : (b c d : ℕ) → (c == d) ≡ false → b ≡ c → b ≡ d → ⊥
clash b c d n e f = eqb-false c d n (sym e ∙ f)

-- ---- bytes that stand in no spelling but first, or in single quotes

-- none of space, `[`, `*`, single quote, double quote and the two braces
abbrev is_inner : ℕ → Bool
is_inner b = not ((b == 32) || ((b == 91) || ((b == 42) || ((b == 39) || ((b == 34) || ((b == 125) || (b == 123)))))))

-- a set without these bytes
record IsInner (test : ℕ → Bool) : Type 0 where
  space : test 32 ≡ false
  bracket : test 91 ≡ false
  star : test 42 ≡ false
  quote : test 39 ≡ false
  double : test 34 ≡ false
  close : test 125 ≡ false
  open_brace : test 123 ≡ false

-- a byte inside of a set isn't one outside of it
other : (test : ℕ → Bool) (b c : ℕ) → test c ≡ false → test b ≡ true → (b == c) ≡ false
other test b c n h = ne_eqb b c (λ e. both_ways (test b) (ap test e ∙ n) h)

-- the bytes of a set without these are inner bytes
inner : (test : ℕ → Bool) → IsInner test → (b : ℕ) → test b ≡ true → is_inner b ≡ true
inner test n b h =
    let space = other test b 32 n.space h in
    let bracket = other test b 91 n.bracket h in
    let star = other test b 42 n.star h in
    let quote = other test b 39 n.quote h in
    let double = other test b 34 n.double h in
    let close = other test b 125 n.close h in
    let open_brace = other test b 123 n.open_brace h in
    λ i. not (space i || (bracket i || (star i || (quote i || (double i || (close i || open_brace i))))))

-- texts over such a set have inner bytes alone
all_inner : (test : ℕ → Bool) → IsInner test → (s : List ℕ) → Of test s → Of is_inner s
all_inner test n [] h = tt
all_inner test n (b ∷ s) h = (inner test n b h.0, all_inner test n s h.1)

-- an inner byte isn't one that isn't
none_is : (b c : ℕ) → is_inner b ≡ true → is_inner c ≡ false → b ≢ c
none_is b c h n e = both_ways (is_inner b) (ap is_inner e ∙ n) h

-- ---- spellings but for those in single quotes

-- one such byte or more
abbrev AllInner : List ℕ → Type 0
AllInner [] = ⊥
AllInner (b ∷ s) = (is_inner b ≡ true) × Of is_inner s

-- no single quote in front, inner bytes behind the first, and nothing behind a double quote or a closing brace
abbrev Shape : List ℕ → Type 0
Shape [] = ⊥
Shape (b ∷ s) = (b ≢ 39) × (((b ≡ 34) ⊎ (b ≡ 125)) → s ≡ []) × Of is_inner s

-- one or more inner bytes have this shape
inner_shape : (s : List ℕ) → AllInner s → Shape s
inner_shape [] h = h
inner_shape (b ∷ s) h = (
  none_is b 39 h.0 refl,
  (λ either. elim either [
    | inl e ↦ absurd (none_is b 34 h.0 refl e)
    | inr e ↦ absurd (none_is b 125 h.0 refl e)
  ]),
  h.1,
)

-- what begins a segment of a name is an inner byte
begins_inner : (how : Style) → IsInner (begins how)
begins_inner style.Word = record { space = refl; bracket = refl; star = refl; quote = refl; double = refl; close = refl; open_brace = refl }
begins_inner style.Ref = record { space = refl; bracket = refl; star = refl; quote = refl; double = refl; close = refl; open_brace = refl }
begins_inner style.Var = record { space = refl; bracket = refl; star = refl; quote = refl; double = refl; close = refl; open_brace = refl }

-- what goes on with one is, too
goes_inner : (how : Style) → IsInner (goes_on how)
goes_inner style.Word = record { space = refl; bracket = refl; star = refl; quote = refl; double = refl; close = refl; open_brace = refl }
goes_inner style.Ref = record { space = refl; bracket = refl; star = refl; quote = refl; double = refl; close = refl; open_brace = refl }
goes_inner style.Var = record { space = refl; bracket = refl; star = refl; quote = refl; double = refl; close = refl; open_brace = refl }

-- digits are inner bytes
digit_inner : IsInner is_digit
digit_inner = record { space = refl; bracket = refl; star = refl; quote = refl; double = refl; close = refl; open_brace = refl }

-- octal digits are
octal_inner : IsInner is_octal
octal_inner = record { space = refl; bracket = refl; star = refl; quote = refl; double = refl; close = refl; open_brace = refl }

-- hexadecimal digits are
hex_inner : IsInner is_hex
hex_inner = record { space = refl; bracket = refl; star = refl; quote = refl; double = refl; close = refl; open_brace = refl }

-- a segment of a name has inner bytes alone
segment_inner : (how : Style) (s : List ℕ) → Segment how s → AllInner s
segment_inner how [] h = h
segment_inner how (b ∷ s) h = (inner (begins how) (begins_inner how) b h.0, all_inner (goes_on how) (goes_inner how) s h.1)

-- one or more inner bytes are inner bytes alone
of_inner : (s : List ℕ) → AllInner s → Of is_inner s
of_inner [] h = tt
of_inner (b ∷ s) h = h

-- and so with more inner bytes behind them
inner_append : (s t : List ℕ) → AllInner s → Of is_inner t → AllInner (s ++ t)
inner_append [] t h k = absurd h
inner_append (b ∷ s) t h k = (h.0, Of-append is_inner s t h.1 k)

-- segments with `::` between them have inner bytes alone
joined_inner : (how : Style) (s : List ℕ) → Joined how s → AllInner s
joined_inner how s (one h) = segment_inner how s h
joined_inner how s (another front back h more e) =
    subst (λ (t : List ℕ). AllInner t) (sym e) (inner_append front (58 ∷ 58 ∷ back) (segment_inner how front h) (refl, (refl, of_inner back (joined_inner how back more))))

-- a name has inner bytes alone
name_inner : (how : Style) (s : List ℕ) → Name how s → AllInner s
name_inner how s (inl h) = joined_inner how s h
name_inner how s (inr h) = subst (λ (t : List ℕ). AllInner t) (sym h.1) (refl, (refl, of_inner h.0 (joined_inner how h.0 h.2)))

-- one or more bytes of a set of inner bytes are inner bytes alone
some_inner : (test : ℕ → Bool) → IsInner test → (s : List ℕ) → SomeOf test s → AllInner s
some_inner test n [] h = h
some_inner test n (b ∷ s) h = (inner test n b h.0, all_inner test n s h.1)

-- an INT has inner bytes alone
int_inner : (s : List ℕ) → IntText s → AllInner s
int_inner s (only_zero e) = subst (λ (t : List ℕ). AllInner t) (sym e) (refl, tt)
int_inner s (decimal b more e not_zero d all) = subst (λ (t : List ℕ). AllInner t) (sym e) (inner is_digit digit_inner b d, all_inner is_digit digit_inner more all)
int_inner s (octal more e all) = subst (λ (t : List ℕ). AllInner t) (sym e) (refl, of_inner more (some_inner is_octal octal_inner more all))
int_inner s (hexadecimal x more e (inl low) all) = subst (λ (t : List ℕ). AllInner t) (sym e) (refl, (ap is_inner low, of_inner more (some_inner is_hex hex_inner more all)))
int_inner s (hexadecimal x more e (inr high) all) = subst (λ (t : List ℕ). AllInner t) (sym e) (refl, (ap is_inner high, of_inner more (some_inner is_hex hex_inner more all)))

-- a FLOAT has inner bytes alone
float_inner : (s : List ℕ) → FloatText s → AllInner s
float_inner s h =
    let whole = some_inner is_digit digit_inner h.whole h.whole_digits in
    let fraction = of_inner h.fraction (some_inner is_digit digit_inner h.fraction h.fraction_digits) in
    subst (λ (t : List ℕ). AllInner t) (sym h.parts) (inner_append h.whole (46 ∷ h.fraction) whole (refl, fraction))

-- ---- the same as a test, for tables

-- the text has no byte
abbrev is_empty : List ℕ → Bool
is_empty [] = true
is_empty (b ∷ s) = false

-- whether a text has the shape of a spelling
abbrev has_shape : List ℕ → Bool
has_shape [] = false
has_shape (b ∷ s) = not (b == 39) && ((not ((b == 34) || (b == 125)) || is_empty s) && list_all is_inner s)

-- where the test of all bytes passes, all are inner
all_of : (s : List ℕ) → list_all is_inner s ≡ true → Of is_inner s
all_of [] h = tt
all_of (b ∷ s) h = let p = and_parts (is_inner b) (list_all is_inner s) h in (p.0, all_of s p.1)

-- a text that is told to be empty is
empty_is : (s : List ℕ) → is_empty s ≡ true → s ≡ []
empty_is [] h = refl
empty_is (b ∷ s) h = cc

-- where the test of the rest passes, nothing stands behind a double quote or a closing brace
alone : (b : ℕ) (s : List ℕ) → (not ((b == 34) || (b == 125)) || is_empty s) ≡ true → (b ≡ 34) ⊎ (b ≡ 125) → s ≡ []
alone b s h (inl e) = empty_is s (ap (λ (c : ℕ). not ((c == 34) || (c == 125)) || is_empty s) (sym e) ∙ h)
alone b s h (inr e) = empty_is s (ap (λ (c : ℕ). not ((c == 34) || (c == 125)) || is_empty s) (sym e) ∙ h)

-- a text that passes the test has the shape
shape_is : (s : List ℕ) → has_shape s ≡ true → Shape s
shape_is [] h = cc
shape_is (b ∷ s) h =
    let p = and_parts (not (b == 39)) ((not ((b == 34) || (b == 125)) || is_empty s) && list_all is_inner s) h in
    let q = and_parts (not ((b == 34) || (b == 125)) || is_empty s) (list_all is_inner s) p.1 in
    (eqb-false b 39 (not-true (b == 39) p.0), alone b s q.0, all_of s q.1)

-- what is among texts that all pass has the shape
in_table : (texts : List (List ℕ)) (s : List ℕ) → all_pass has_shape texts ≡ true → is_among texts s ≡ true → Shape s
in_table texts s all h = shape_is s (of_each has_shape texts s all h)

-- a spelling is a text in single quotes, or has the shape
spelled_shape : (k : Kind) (s : List ℕ) → Spelling k s → Spelling kind.Sq s ⊎ Shape s
spelled_shape kind.Word s h = inr (inner_shape s (name_inner style.Word s h.0))
spelled_shape kind.Keyword s h = inr (in_table keywords s refl h)
spelled_shape kind.Ref s h = inr (inner_shape s (name_inner style.Ref s h))
spelled_shape kind.Var s h = inr (subst (λ (t : List ℕ). Shape t) (sym h.1) (inner_shape (36 ∷ h.0) (refl, of_inner h.0 (name_inner style.Var h.0 h.2))))
spelled_shape kind.Int s h = inr (inner_shape s (int_inner s h))
spelled_shape kind.Float s h = inr (inner_shape s (float_inner s h))
spelled_shape kind.Sq s h = inl h
spelled_shape kind.DqOpen s h = inr (subst (λ (t : List ℕ). Shape t) (sym h) (shape_is (codes "\"") refl))
spelled_shape kind.Sign s h = inr (in_table signs s refl h)
spelled_shape kind.LeftOut s h = inr (in_table left_out s refl h)
spelled_shape kind.DqText s h = absurd h
spelled_shape kind.DqVar s h = absurd h
spelled_shape kind.Hole s h = absurd h
spelled_shape kind.HoleEnd s h = absurd h
spelled_shape kind.DqClose s h = absurd h
spelled_shape kind.Tight s h = absurd h
spelled_shape kind.Loose s h = absurd h

-- ---- no spelling goes further

-- A text of inner bytes ends where another byte is.
tail_stops : (s more back rest : List ℕ) (b : ℕ) → is_inner b ≡ false → Of is_inner s → s ++ back ≡ more ++ b ∷ rest → length s ≤ length more
tail_stops [] more back rest b n h e = omega arith
tail_stops (c ∷ s) [] back rest b n h e = absurd (none_is c b h.0 n (head_is c b (s ++ back) rest e))
tail_stops (c ∷ s) (d ∷ more) back rest b n h e =
    let below = tail_stops s more back rest b n h.1 (tail_is c d (s ++ back) (more ++ b ∷ rest) e) in omega (arith, below)

-- Of two texts in single quotes at one place neither goes further than the other.
close_first : (x y back rest : List ℕ) → SqText x → SqText y → x ++ 39 ∷ back ≡ y ++ 39 ∷ rest → length x ≤ length y
close_first [] y back rest h g e = omega arith
close_first (b ∷ x) [] back rest (inl h) g e = absurd (h.0 (head_is b 39 (x ++ 39 ∷ back) rest e))
close_first (b ∷ x) [] back rest (inr h) g e = absurd (clash b 92 39 refl h.0 (head_is b 39 (x ++ 39 ∷ back) rest e))
close_first (b ∷ x) (c ∷ y) back rest (inl h) (inl g) e =
    let below = close_first x y back rest h.2 g.2 (tail_is b c (x ++ 39 ∷ back) (y ++ 39 ∷ rest) e) in omega (arith, below)
close_first (b ∷ x) (c ∷ y) back rest (inl h) (inr g) e = absurd (h.1 (head_is b c (x ++ 39 ∷ back) (y ++ 39 ∷ rest) e ∙ g.0))
close_first (b ∷ x) (c ∷ y) back rest (inr h) (inl g) e = absurd (g.1 (sym (head_is b c (x ++ 39 ∷ back) (y ++ 39 ∷ rest) e) ∙ h.0))
close_first (b ∷ []) (c ∷ y) back rest (inr h) (inr g) e = absurd h.1
close_first (b ∷ d ∷ x) (c ∷ []) back rest (inr h) (inr g) e = absurd g.1
close_first (b ∷ d ∷ x) (c ∷ f ∷ y) back rest (inr h) (inr g) e =
    let more : d ∷ (x ++ 39 ∷ back) ≡ f ∷ (y ++ 39 ∷ rest) = tail_is b c (d ∷ (x ++ 39 ∷ back)) (f ∷ (y ++ 39 ∷ rest)) e in
    let below = close_first x y back rest h.1 g.1 (tail_is d f (x ++ 39 ∷ back) (y ++ 39 ∷ rest) more) in omega (arith, below)

-- of two spellings in single quotes at one place neither goes further than the other
quoted_stops : (s t back rest : List ℕ) → Spelling kind.Sq s → Spelling kind.Sq t → s ++ back ≡ t ++ rest → length s ≤ length t
quoted_stops s t back rest h g e =
    let x = h.0 in
    let y = g.0 in
    let left : s ++ back ≡ 39 ∷ (x ++ 39 ∷ back) = ap (λ (u : List ℕ). u ++ back) h.1 ∙ ap (λ (u : List ℕ). 39 ∷ u) (append_assoc x (39 ∷ []) back) in
    let right : t ++ rest ≡ 39 ∷ (y ++ 39 ∷ rest) = ap (λ (u : List ℕ). u ++ rest) g.1 ∙ ap (λ (u : List ℕ). 39 ∷ u) (append_assoc y (39 ∷ []) rest) in
    let whole : 39 ∷ (x ++ 39 ∷ back) ≡ 39 ∷ (y ++ 39 ∷ rest) = sym left ∙ e ∙ right in
    let below = close_first x y back rest h.2 g.2 (tail_is 39 39 (x ++ 39 ∷ back) (y ++ 39 ∷ rest) whole) in
    omega (arith, below, ap length h.1, ap length g.1, length-append x (39 ∷ []), length-append y (39 ∷ []))

-- a spelling goes no further than another, behind which a byte stands that isn't inner
shape_stops : (s t back rest : List ℕ) (b : ℕ) → is_inner b ≡ false → Shape s → Spelling kind.Sq t ⊎ Shape t → s ++ back ≡ t ++ b ∷ rest → length s ≤ length t
shape_stops [] t back rest b n h g e = absurd h
shape_stops (c ∷ s) [] back rest b n h (inl g) e = let bad = g.1 in cc
shape_stops (c ∷ s) [] back rest b n h (inr g) e = absurd g
shape_stops (c ∷ s) (d ∷ t) back rest b n h g e =
    let below = tail_stops s t back rest b n h.2 (tail_is c d (s ++ back) (t ++ b ∷ rest) e) in omega (arith, below)

-- A text in single quotes and another spelling don't begin alike.
quote_first : (s t back rest : List ℕ) → Spelling kind.Sq s → Shape t → s ++ back ≡ t ++ rest → ⊥
quote_first s [] back rest h g e = g
quote_first s (d ∷ t) back rest h g e =
    let whole : 39 ∷ ((h.0 ++ 39 ∷ []) ++ back) ≡ d ∷ (t ++ rest) = ap (λ (u : List ℕ). u ++ back) (sym h.1) ∙ e in
    g.0 (sym (head_is 39 d ((h.0 ++ 39 ∷ []) ++ back) (t ++ rest) whole))

-- of two spellings at one place the first goes no further, where a byte stands behind the second that isn't inner
stops : (s t back rest : List ℕ) (b : ℕ) → is_inner b ≡ false → Spelling kind.Sq s ⊎ Shape s → Spelling kind.Sq t ⊎ Shape t → s ++ back ≡ t ++ b ∷ rest → length s ≤ length t
stops s t back rest b n (inl h) (inl g) e = quoted_stops s t back (b ∷ rest) h g e
stops s t back rest b n (inl h) (inr g) e = absurd (quote_first s t back (b ∷ rest) h g e)
stops s t back rest b n (inr h) g e = shape_stops s t back rest b n h g e

-- neither a space nor the bracket of an index is an inner byte
apart_is : (b : ℕ) → (b ≡ 32) ⊎ (b ≡ 91) → is_inner b ≡ false
apart_is b (inl e) = ap is_inner e
apart_is b (inr e) = ap is_inner e

-- no spelling goes further than one that is set apart from what is behind it
apart_stops : (j k : Kind) (front s back rest : List ℕ) → IsSetApart rest → Spelling j front → Spelling k s → front ++ back ≡ s ++ rest → length front ≤ length s
apart_stops j k front s back [] apart f h e = omega (arith, ap length e, length-append front back, length-append s [])
apart_stops j k front s back (b ∷ rest) apart f h e = stops front s back rest b (apart_is b apart) (spelled_shape j front f) (spelled_shape k s h) e

-- ---- no comment begins with it

-- what is set apart begins with no `*`
no_star : (rest tail : List ℕ) → IsSetApart rest → rest ≢ 42 ∷ tail
no_star [] tail apart e = cc
no_star (b ∷ rest) tail (inl h) e = clash b 32 42 refl h (head_is b 42 rest tail e)
no_star (b ∷ rest) tail (inr h) e = clash b 91 42 refl h (head_is b 42 rest tail e)

-- no comment begins where a spelling stands that is set apart
no_comment : (s rest : List ℕ) → IsSetApart rest → Spelling kind.Sq s ⊎ Shape s → NoComment (s ++ rest)
no_comment s rest apart (inl h) tail e =
    let whole : 39 ∷ ((h.0 ++ 39 ∷ []) ++ rest) ≡ 47 ∷ 42 ∷ tail = ap (λ (u : List ℕ). u ++ rest) (sym h.1) ∙ e in
    heads_clash 39 47 ((h.0 ++ 39 ∷ []) ++ rest) (42 ∷ tail) refl whole
no_comment [] rest apart (inr h) tail e = h
no_comment (c ∷ []) rest apart (inr h) tail e = no_star rest tail apart (tail_is c 47 rest (42 ∷ tail) e)
no_comment (c ∷ d ∷ s) rest apart (inr h) tail e = none_is d 42 h.2.0 refl (head_is d 42 (s ++ rest) tail (tail_is c 47 (d ∷ (s ++ rest)) (42 ∷ tail) e))

-- ---- tokens outside of double quotes

-- outside of quotes the longest spelling is the token, unless it is a number that can't stand there
outside : (p : Place) (k : Kind) (s rest : List ℕ) → in_quotes p.opened ≡ false → IsLongest false k s rest → NumberStands k s rest → TokenAt p (kind_at p k s) s rest
outside p k s rest q h n = record { spelled = k; longest = subst (λ (v : Bool). IsLongest v k s rest) (sym q) h; number = n; kind_is = refl }

-- a spelling that is set apart from what is behind it is the token there
pub spelled : (p : Place) (k : Kind) (s rest : List ℕ) → in_quotes p.opened ≡ false → Spelling k s → NumberStands k s rest → IsSetApart rest → TokenAt p (kind_at p k s) s rest
spelled p k s rest q h n apart = outside p k s rest q (record {
  fits = (h, no_comment s rest apart (spelled_shape k s h));
  longest = λ j front back f e. apart_stops j k front s back rest apart f.0 h e;
}) n

-- The byte is the whole of each spelling that begins with it.
abbrev IsAlone : ℕ → Type 0
IsAlone b = (b ≡ 34) ⊎ (b ≡ 125)

-- such a byte is no single quote
alone_not_quote : (b : ℕ) → IsAlone b → b ≢ 39
alone_not_quote b (inl h) e = clash b 34 39 refl h e
alone_not_quote b (inr h) e = clash b 125 39 refl h e

-- and no slash
alone_not_slash : (b : ℕ) → IsAlone b → b ≢ 47
alone_not_slash b (inl h) e = clash b 34 47 refl h e
alone_not_slash b (inr h) e = clash b 125 47 refl h e

-- a spelling that begins with it is no longer than one byte
alone_stops : (b : ℕ) (front back rest : List ℕ) → IsAlone b → Spelling kind.Sq front ⊎ Shape front → front ++ back ≡ b ∷ rest → length front ≤ 1
alone_stops b front back rest a (inl h) e =
    let whole : 39 ∷ ((h.0 ++ 39 ∷ []) ++ back) ≡ b ∷ rest = ap (λ (u : List ℕ). u ++ back) (sym h.1) ∙ e in
    absurd (alone_not_quote b a (sym (head_is 39 b ((h.0 ++ 39 ∷ []) ++ back) rest whole)))
alone_stops b [] back rest a (inr h) e = absurd h
alone_stops b (c ∷ s) back rest a (inr h) e =
    let same = sym (head_is c b (s ++ back) rest e) in
    let empty = h.1 (subst (λ (d : ℕ). IsAlone d) same a) in omega (arith, ap length empty)

-- the byte alone is the longest spelling there
alone_longest : (b : ℕ) (k : Kind) (rest : List ℕ) → IsAlone b → Spelling k (b ∷ []) → IsLongest false k (b ∷ []) rest
alone_longest b k rest a h = record {
  fits = (h, λ tail e. alone_not_slash b a (head_is b 47 rest (42 ∷ tail) e));
  longest = λ j front back f e. alone_stops b front back rest a (spelled_shape j front f.0) e;
}

-- outside of quotes a double quote is a token that opens them
pub quote : (p : Place) (rest : List ℕ) → in_quotes p.opened ≡ false → TokenAt p kind.DqOpen (codes "\"") rest
quote p rest q = outside p kind.DqOpen (codes "\"") rest q (alone_longest 34 kind.DqOpen rest (inl refl) refl) tt

-- and a closing brace is a token by itself
pub brace : (p : Place) (rest : List ℕ) → in_quotes p.opened ≡ false → TokenAt p (kind_at p kind.Sign (codes "}")) (codes "}") rest
brace p rest q = outside p kind.Sign (codes "}") rest q (alone_longest 125 kind.Sign rest (inr refl) refl) tt

-- ---- tokens within double quotes

-- text within double quotes doesn't begin with `${`
piece_no_hole : (front back rest : List ℕ) → front ≢ [] → DqPiece front back → front ++ back ≡ 36 ∷ 123 ∷ rest → ⊥
piece_no_hole front back rest full (nothing e) whole = full e
piece_no_hole front back rest full (plain b more e n m l d) whole =
    let both : b ∷ (more ++ back) ≡ 36 ∷ 123 ∷ rest = ap (λ (u : List ℕ). u ++ back) (sym e) ∙ whole in
    m (head_is b 36 (more ++ back) (123 ∷ rest) both)
piece_no_hole front back rest full (dollar more e n d) whole =
    let both : 36 ∷ (more ++ back) ≡ 36 ∷ 123 ∷ rest = ap (λ (u : List ℕ). u ++ back) (sym e) ∙ whole in
    n (inl (rest, tail_is 36 36 (more ++ back) (123 ∷ rest) both))
piece_no_hole front back rest full (escape here more e h d) whole =
    let both : 92 ∷ ((here ++ more) ++ back) ≡ 36 ∷ 123 ∷ rest = ap (λ (u : List ℕ). u ++ back) (sym e) ∙ whole in
    heads_clash 92 36 _ _ refl both
piece_no_hole front back rest full (backslash more e n d) whole =
    let both : 92 ∷ (more ++ back) ≡ 36 ∷ 123 ∷ rest = ap (λ (u : List ℕ). u ++ back) (sym e) ∙ whole in
    heads_clash 92 36 _ _ refl both

-- nor with a double quote
piece_no_close : (front back rest : List ℕ) → front ≢ [] → DqPiece front back → front ++ back ≡ 34 ∷ rest → ⊥
piece_no_close front back rest full (nothing e) whole = full e
piece_no_close front back rest full (plain b more e n m l d) whole =
    let both : b ∷ (more ++ back) ≡ 34 ∷ rest = ap (λ (u : List ℕ). u ++ back) (sym e) ∙ whole in
    n (head_is b 34 (more ++ back) rest both)
piece_no_close front back rest full (dollar more e n d) whole =
    let both : 36 ∷ (more ++ back) ≡ 34 ∷ rest = ap (λ (u : List ℕ). u ++ back) (sym e) ∙ whole in
    heads_clash 36 34 _ _ refl both
piece_no_close front back rest full (escape here more e h d) whole =
    let both : 92 ∷ ((here ++ more) ++ back) ≡ 34 ∷ rest = ap (λ (u : List ℕ). u ++ back) (sym e) ∙ whole in
    heads_clash 92 34 _ _ refl both
piece_no_close front back rest full (backslash more e n d) whole =
    let both : 92 ∷ (more ++ back) ≡ 34 ∷ rest = ap (λ (u : List ℕ). u ++ back) (sym e) ∙ whole in
    heads_clash 92 34 _ _ refl both

-- a name doesn't begin with an opening brace
name_no_brace : (name back rest : List ℕ) → AllInner name → name ++ back ≡ 123 ∷ rest → ⊥
name_no_brace [] back rest h e = h
name_no_brace (b ∷ name) back rest h e = none_is b 123 h.0 refl (head_is b 123 (name ++ back) rest e)

-- within double quotes no token that begins with `${` is longer than that
hole_stops : (j : Kind) (front back rest : List ℕ) → InQuotes j front back → front ++ back ≡ 36 ∷ 123 ∷ rest → length front ≤ 2
hole_stops kind.DqText front back rest h e = absurd (piece_no_hole front back rest h.0 h.1 e)
hole_stops kind.DqVar front back rest h e =
    let both : 36 ∷ (h.0 ++ back) ≡ 36 ∷ 123 ∷ rest = ap (λ (u : List ℕ). u ++ back) (sym h.1) ∙ e in
    absurd (name_no_brace h.0 back rest (name_inner style.Var h.0 h.2) (tail_is 36 36 (h.0 ++ back) (123 ∷ rest) both))
hole_stops kind.Hole front back rest h e = omega (arith, ap length h)
hole_stops kind.DqClose front back rest h e = omega (arith, ap length h)
hole_stops kind.Word front back rest h e = absurd h
hole_stops kind.Keyword front back rest h e = absurd h
hole_stops kind.Ref front back rest h e = absurd h
hole_stops kind.Var front back rest h e = absurd h
hole_stops kind.Int front back rest h e = absurd h
hole_stops kind.Float front back rest h e = absurd h
hole_stops kind.Sq front back rest h e = absurd h
hole_stops kind.DqOpen front back rest h e = absurd h
hole_stops kind.Sign front back rest h e = absurd h
hole_stops kind.LeftOut front back rest h e = absurd h
hole_stops kind.HoleEnd front back rest h e = absurd h
hole_stops kind.Tight front back rest h e = absurd h
hole_stops kind.Loose front back rest h e = absurd h

-- and none that begins with a double quote is longer than it
close_stops : (j : Kind) (front back rest : List ℕ) → InQuotes j front back → front ++ back ≡ 34 ∷ rest → length front ≤ 1
close_stops kind.DqText front back rest h e = absurd (piece_no_close front back rest h.0 h.1 e)
close_stops kind.DqVar front back rest h e =
    let both : 36 ∷ (h.0 ++ back) ≡ 34 ∷ rest = ap (λ (u : List ℕ). u ++ back) (sym h.1) ∙ e in
    absurd (heads_clash 36 34 _ _ refl both)
close_stops kind.Hole front back rest h e =
    let both : 36 ∷ 123 ∷ back ≡ 34 ∷ rest = ap (λ (u : List ℕ). u ++ back) (sym h) ∙ e in
    absurd (heads_clash 36 34 _ _ refl both)
close_stops kind.DqClose front back rest h e = omega (arith, ap length h)
close_stops kind.Word front back rest h e = absurd h
close_stops kind.Keyword front back rest h e = absurd h
close_stops kind.Ref front back rest h e = absurd h
close_stops kind.Var front back rest h e = absurd h
close_stops kind.Int front back rest h e = absurd h
close_stops kind.Float front back rest h e = absurd h
close_stops kind.Sq front back rest h e = absurd h
close_stops kind.DqOpen front back rest h e = absurd h
close_stops kind.Sign front back rest h e = absurd h
close_stops kind.LeftOut front back rest h e = absurd h
close_stops kind.HoleEnd front back rest h e = absurd h
close_stops kind.Tight front back rest h e = absurd h
close_stops kind.Loose front back rest h e = absurd h

-- within quotes the longest spelling is the token
within : (p : Place) (k : Kind) (s rest : List ℕ) → in_quotes p.opened ≡ true → IsLongest true k s rest → NumberStands k s rest → TokenAt p (kind_at p k s) s rest
within p k s rest q h n = record { spelled = k; longest = subst (λ (v : Bool). IsLongest v k s rest) (sym q) h; number = n; kind_is = refl }

-- within double quotes `${` is a token by itself
pub hole : (p : Place) (rest : List ℕ) → in_quotes p.opened ≡ true → TokenAt p kind.Hole (codes "${") rest
hole p rest q = within p kind.Hole (codes "${") rest q (record { fits = refl; longest = λ j front back f e. hole_stops j front back rest f e }) tt

-- and so is the closing double quote
pub close : (p : Place) (rest : List ℕ) → in_quotes p.opened ≡ true → TokenAt p kind.DqClose (codes "\"") rest
close p rest q = within p kind.DqClose (codes "\"") rest q (record { fits = refl; longest = λ j front back f e. close_stops j front back rest f e }) tt
