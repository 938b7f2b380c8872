-- What is shown of a reference to a type tells the type and the title.
use Rattle.std.proofs.Common.{◌≡◌, ◌≢◌, ℕ, ◌<◌, Bool, true, false, cond, List, [], ◌∷◌, ◌++◌, map, refl, sym, ap, subst, ◌∙◌, arith}
use Rattle.std.specs.Prelude.{codes, IsTrue, IsAscii, ◌==◌, ◌&&◌, encode_utf8_all}
use Rattle.std.specs.List.{AllByRecursion}
use Rattle.std.specs.Char.{to_ascii_lowercase, is_ascii_alphabetic}
use Rattle.std.proofs.lemmas.Bool.Decides.{nat_tests}
use Rattle.std.proofs.lemmas.List.{append_cancel_right}
use Rattle.std.proofs.lemmas.Str.{chars-IsAscii, encodes-IsAscii}
use Rattle.std.proofs.lemmas.Str.Ascii.{IsAscii-nil, IsAscii-cons, lowercase_ascii, uppercase_ascii, lowercase-lowercase, lowercase-uppercase}
use Rattle.pp_value.specs.declared.value.Ref.{Ref}
use Rattle.pp_value.specs.Texts.{lowered, capital_if, with_capitals, capitalized}
use Rattle.pp_value.specs.Shown.{shown_ref}
use Rattle.pp_eval.specs.Names.{is_colon, unrooted}
use Rattle.pp_eval.specs.References.{plain_name}
use Rattle.compiled_text.specs.Names.{is_word_byte, IsTypeSegment, behind_colons, IsType}
use Rattle.pp_syntax.proofs.QuotedTokens.{same_first}

-- ---- bytes of types

-- a byte of ASCII that is no bracket
pub record IsByte (b : ℕ) : Type 0 where
  pub ascii : b < 128
  pub no_bracket : b ≢ 91

-- one that stays as it is in lower case
pub record IsLowByte (b : ℕ) : Type 0 where
  pub of : IsByte b
  pub low : to_ascii_lowercase b ≡ b

-- each byte of the type stays as it is in lower case, and is no bracket
abbrev pub IsLow : List ℕ → Type 0
IsLow kind = AllByRecursion IsLowByte kind

-- a byte of a word is of ASCII and no bracket
of_word : (c : ℕ) → IsTrue (is_word_byte c) → IsByte c
of_word c h = record { ascii = grind (arith, nat_tests); no_bracket = λ e. grind (arith, nat_tests) }

-- and so is a letter
pub of_letter : (c : ℕ) → IsTrue (is_ascii_alphabetic c) → IsByte c
of_letter c h = record { ascii = grind (arith, nat_tests); no_bracket = λ e. grind (arith, nat_tests) }

-- in lower case such a byte stays as it is
lowered_byte : (c : ℕ) → IsByte c → IsLowByte (to_ascii_lowercase c)
lowered_byte c is = record {
  of = record { ascii = lowercase_ascii c is.ascii; no_bracket = λ e. (let n = is.no_bracket in grind (arith, nat_tests)) };
  low = lowercase-lowercase c;
}

-- with a capital it is no bracket still
capital_byte : (first : Bool) (c : ℕ) → IsLowByte c → IsByte (capital_if first c)
capital_byte true c is = record { ascii = uppercase_ascii c is.of.ascii; no_bracket = λ e. (let n = is.of.no_bracket in grind (arith, nat_tests)) }
capital_byte false c is = is.of

-- and in lower case again it is what it was
low_again : (first : Bool) (c : ℕ) → IsLowByte c → to_ascii_lowercase (capital_if first c) ≡ c
low_again true c is = lowercase-uppercase c ∙ is.low
low_again false c is = is.low

-- ---- types

-- a word ahead of such bytes is of such bytes
all_of_words : (text rest : List ℕ) → AllByRecursion (λ d. IsTrue (is_word_byte d)) text → AllByRecursion IsByte rest → AllByRecursion IsByte (text ++ rest)
all_of_words [] rest h more = more
all_of_words (c ∷ text) rest h more = (of_word c h.0, all_of_words text rest h.1 more)

-- and so is a segment of a type
all_of_segment : (s rest : List ℕ) → IsTypeSegment s → AllByRecursion IsByte rest → AllByRecursion IsByte (s ++ rest)
all_of_segment [] rest h more = absurd h
all_of_segment (c ∷ s) rest h more = (of_letter c h.0, all_of_words s rest h.1 more)

-- a colon is such a byte
colon : IsByte 58
colon = record { ascii = omega arith; no_bracket = λ e. omega (arith, e) }

-- segments behind colons are of such bytes
all_of_segments : (segments : List (List ℕ)) → AllByRecursion IsTypeSegment segments → AllByRecursion IsByte (behind_colons segments)
all_of_segments [] h = tt
all_of_segments (s ∷ segments) h = (colon, (colon, all_of_segment s (behind_colons segments) h.0 (all_of_segments segments h.1)))

-- and so is a type
all_of_type : (text : List ℕ) → IsType text → AllByRecursion IsByte text
all_of_type text is = subst (AllByRecursion IsByte) (sym is.joined) (all_of_segment is.first (behind_colons is.others) is.are_segments.0 (all_of_segments is.others is.are_segments.1))

-- and what is left of a text of such bytes without its root
all_unrooted : (text : List ℕ) → AllByRecursion IsByte text → AllByRecursion IsByte (unrooted text)
all_unrooted [] h = tt
all_unrooted (c ∷ []) h = h
all_unrooted (c ∷ d ∷ text) h = at (is_colon c && is_colon d)
  where
    at : (t : Bool) → AllByRecursion IsByte (cond t text (c ∷ d ∷ text))
    at true = h.1.1
    at false = h

-- in lower case such a text is in lower case
all_lowered : (text : List ℕ) → AllByRecursion IsByte text → IsLow (lowered text)
all_lowered [] h = tt
all_lowered (c ∷ text) h = (lowered_byte c h.0, all_lowered text h.1)

-- a type in lower case
pub low_type : (text : List ℕ) → IsType text → IsLow (plain_name text)
low_type text is = all_lowered (unrooted text) (all_unrooted text (all_of_type text is))

-- ---- what is shown

-- a type in lower case is of such bytes with capitals, too
capitals_are : (first : Bool) (kind : List ℕ) → IsLow kind → AllByRecursion IsByte (with_capitals first kind)
capitals_are first [] h = tt
capitals_are first (c ∷ kind) h = (capital_byte first c h.0, capitals_are (c == 58) kind h.1)

-- and in lower case again it is what it was
again : (first : Bool) (kind : List ℕ) → IsLow kind → map to_ascii_lowercase (with_capitals first kind) ≡ kind
again first [] h = refl
again first (c ∷ kind) h = (λ i. low_again first c h.0 i ∷ again (c == 58) kind h.1 i)

-- a text of such bytes is of ASCII
all_ascii : (text : List ℕ) → AllByRecursion IsByte text → IsAscii text
all_ascii [] h = IsAscii-nil
all_ascii (c ∷ text) h = IsAscii-cons c text h.0.ascii (all_ascii text h.1)

-- and so is a type in lower case
low_ascii : (kind : List ℕ) → IsLow kind → IsAscii kind
low_ascii [] h = IsAscii-nil
low_ascii (c ∷ kind) h = IsAscii-cons c kind h.0.of.ascii (low_ascii kind h.1)

-- it is shown with capitals
shown : (kind : List ℕ) → IsLow kind → capitalized kind ≡ with_capitals true kind
shown kind h =
    ap (λ (letters : List ℕ). encode_utf8_all (with_capitals true letters)) (chars-IsAscii kind (low_ascii kind h))
    ∙ encodes-IsAscii (with_capitals true kind) (all_ascii (with_capitals true kind) (capitals_are true kind h))

-- up to the first bracket both are the same, and behind it
same_parts : (f g r s : List ℕ) → AllByRecursion IsByte f → AllByRecursion IsByte g → f ++ 91 ∷ r ≡ g ++ 91 ∷ s → (f ≡ g) × (r ≡ s)
same_parts [] [] r s h k e = (refl, (same_first 91 91 r s e).1)
same_parts [] (d ∷ g) r s h k e = absurd (k.0.no_bracket (sym (same_first 91 d r (g ++ 91 ∷ s) e).0))
same_parts (c ∷ f) [] r s h k e = absurd (h.0.no_bracket (same_first c 91 (f ++ 91 ∷ r) s e).0)
same_parts (c ∷ f) (d ∷ g) r s h k e =
    let two = same_first c d (f ++ 91 ∷ r) (g ++ 91 ∷ s) e in
    let more = same_parts f g r s h.1 k.1 two.1 in
    ((λ i. two.0 i ∷ more.0 i), more.1)

-- references to types in lower case that are shown alike are the same
pub same_reference : (r q : Ref) → IsLow r.kind → IsLow q.kind → shown_ref r ≡ shown_ref q → r ≡ q
same_reference r q h k e =
    let end : (x : Ref) → List ℕ = λ (x : Ref). x.title ++ codes "]" in
    let parts = same_parts (with_capitals true r.kind) (with_capitals true q.kind) (end r) (end q) (capitals_are true r.kind h) (capitals_are true q.kind k)
    (ap (λ f. f ++ (codes "[" ++ end r)) (sym (shown r.kind h)) ∙ e ∙ ap (λ f. f ++ (codes "[" ++ end q)) (shown q.kind k)) in
    let kinds : r.kind ≡ q.kind = sym (again true r.kind h) ∙ ap (map to_ascii_lowercase) parts.0 ∙ again true q.kind k in
    let titles : r.title ≡ q.title = append_cancel_right r.title q.title (codes "]") parts.1 in
    λ i. record { kind = kinds i; title = titles i }
