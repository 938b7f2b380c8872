-- Reading one token from the front of a text: what it is, and what is left behind it.
use Rattle.std.specs.Prelude.{ℕ, zero, suc, ◌+◌, ◌-◌, ◌^◌, Bool, true, false, ◌==◌, ◌||◌, ◌&&◌, not, nat_le, nat_lt, if◌then◌else◌, List, [], ◌∷◌, length, take, Option, Some, None, is_some}
use Rattle.std.specs.Option.{option_map}
use Rattle.rh_base.specs.Reading.{◌>>=◌}
use Rattle.pp_syntax.specs.declared.token.Kind.{Kind}
use Rattle.pp_syntax.specs.declared.token.Kind.TheVariants as kind
use Rattle.pp_syntax.specs.declared.lexer.bytes.Style.{Style}
use Rattle.pp_syntax.specs.declared.lexer.bytes.Style.TheVariants as style
use Rattle.pp_syntax.specs.declared.lexer.bytes.Class.{Class}
use Rattle.pp_syntax.specs.declared.lexer.bytes.Class.TheVariants as class
use Rattle.pp_syntax.specs.Bytes.{is_blank, is_digit, is_octal, is_hex, is_upper, is_name}
use Rattle.pp_syntax.specs.Tokens.{begins, is_among, keywords, signs, left_out, int_value, hex_value, is_scalar, is_simple_escape}
use Rattle.pp_syntax.specs.declared.lexer.place.Place.{Place}
use Rattle.pp_syntax.specs.Opened.{in_quotes}
use Rattle.pp_syntax.specs.Spelling.{kind_at}

-- a token's kind, and what is left behind it
abbrev pub Found : Type 0
Found = Option (Kind × List ℕ)

-- the token of this kind, where what is left behind it is found
abbrev pub of_kind : Kind → Option (List ℕ) → Found
of_kind k None = None
of_kind k (Some rest) = Some (k, rest)

-- the first of two that is found
abbrev pub or_else : Found → Found → Found
or_else None other = other
or_else (Some x) other = Some x

-- what a text has before this rest
abbrev pub front_of : List ℕ → List ℕ → List ℕ
front_of text rest = take (length text - length rest) text

abbrev pub in_class : Class → ℕ → Bool
in_class class.Digit b = is_digit b
in_class class.Octal b = is_octal b
in_class class.Hex b = is_hex b
in_class class.Line b = not (b == 10)

-- what is left behind all bytes of this set at the front
abbrev pub after_all : (ℕ → Bool) → List ℕ → List ℕ
after_all test [] = []
after_all test (b ∷ text) = if test b then after_all test text else b ∷ text

-- ---- names

abbrev pub has_dashes : Style → Bool
has_dashes style.Word = true
has_dashes style.Ref = false
has_dashes style.Var = false

-- what is left behind a segment whose longest end so far is before best
abbrev pub tail_from : Style → List ℕ → List ℕ → List ℕ
tail_from how best [] = best
tail_from how best (b ∷ text) = if is_name b then tail_from how text text else
    (if (b == 45) && has_dashes how then tail_from how best text else best)

-- what is left behind a segment
abbrev pub segment : Style → List ℕ → Option (List ℕ)
segment how [] = None
segment how (b ∷ text) = if begins how b then Some (tail_from how text text) else None

-- what is left behind a `::`
abbrev pub after_colons : List ℕ → Option (List ℕ)
after_colons [] = None
after_colons (b ∷ []) = None
after_colons (b ∷ c ∷ rest) = if (b == 58) && (c == 58) then Some rest else None

-- what is left behind a `::` and a segment
unfoldable pub next_segment : Style → List ℕ → Option (List ℕ)
next_segment how text = after_colons text >>= segment how

abbrev pub go_on : (List ℕ → List ℕ) → List ℕ → Option (List ℕ) → List ℕ
go_on more rest None = rest
go_on more rest (Some next) = more next

-- what is left behind the segments that follow, at most n of them
abbrev pub more_segments : ℕ → Style → List ℕ → List ℕ
more_segments zero how rest = rest
more_segments (suc n) how rest = go_on (more_segments n how) rest (next_segment how rest)

abbrev pub all_segments : Style → List ℕ → List ℕ
all_segments how rest = more_segments (length rest) how rest

-- what is left behind segments with `::` between them
unfoldable pub joined : Style → List ℕ → Option (List ℕ)
joined how text = option_map (all_segments how) (segment how text)

abbrev pub name_behind : Style → List ℕ → Option (List ℕ) → Option (List ℕ)
name_behind how text None = joined how text
name_behind how text (Some rest) = joined how rest

-- the same, and there may be a `::` in front
unfoldable pub name : Style → List ℕ → Option (List ℕ)
name how text = name_behind how text (after_colons text)

abbrev pub word_kind : List ℕ → Kind
word_kind s = if is_among keywords s then kind.Keyword else kind.Word

abbrev pub word_found : List ℕ → Option (List ℕ) → Found
word_found text None = None
word_found text (Some rest) = Some (word_kind (front_of text rest), rest)

-- ---- numbers

-- what is left behind one or more digits
abbrev pub digits_behind : List ℕ → Option (List ℕ)
digits_behind [] = None
digits_behind (d ∷ text) = if is_digit d then Some (after_all is_digit text) else None

-- what is left behind a dot and digits
abbrev pub fraction : List ℕ → Option (List ℕ)
fraction [] = None
fraction (b ∷ text) = if b == 46 then digits_behind text else None

-- what is left behind one or more hexadecimal digits
abbrev pub hex_behind : List ℕ → Option (List ℕ)
hex_behind [] = None
hex_behind (d ∷ text) = if is_hex d then Some (after_all is_hex text) else None

abbrev pub unwrap_rest : List ℕ → Option (List ℕ) → List ℕ
unwrap_rest rest None = rest
unwrap_rest rest (Some other) = other

-- what is left behind a zero and what belongs to it
abbrev pub after_zero : List ℕ → List ℕ
after_zero [] = []
after_zero (x ∷ text) = if (x == 120) || (x == 88) then unwrap_rest (x ∷ text) (hex_behind text) else after_all is_octal (x ∷ text)

-- what is left behind an INT
abbrev pub after_int : List ℕ → List ℕ
after_int [] = []
after_int (b ∷ text) = if b == 48 then after_zero text else after_all is_digit text

abbrev pub int_or_float : List ℕ → Option (List ℕ) → Found
int_or_float text None = Some (kind.Int, after_int text)
int_or_float text (Some rest) = Some (kind.Float, rest)

-- the number at the front of a text that begins with a digit
unfoldable pub number : List ℕ → Found
number text = int_or_float text (fraction (after_all is_digit text))

-- ---- texts in single quotes

abbrev mutual
  pub after_sq : List ℕ → Option (List ℕ)
  after_sq [] = None
  after_sq (b ∷ text) = if b == 39 then Some text else (if b == 92 then after_sq_escape text else after_sq text)

  pub after_sq_escape : List ℕ → Option (List ℕ)
  after_sq_escape [] = None
  after_sq_escape (c ∷ text) = after_sq text

-- ---- signs

-- what a text is as a sign, if it is one
abbrev pub sign_of : List ℕ → Option Kind
sign_of s = if is_among signs s then Some kind.Sign else (if is_among left_out s then Some kind.LeftOut else None)

abbrev pub sign_found : List ℕ → Option Kind → Found
sign_found rest None = None
sign_found rest (Some k) = Some (k, rest)

unfoldable pub one_byte : List ℕ → Found
one_byte [] = None
one_byte (a ∷ rest) = sign_found rest (sign_of (a ∷ []))

unfoldable pub two_bytes : List ℕ → Found
two_bytes [] = None
two_bytes (a ∷ []) = None
two_bytes (a ∷ b ∷ rest) = sign_found rest (sign_of (a ∷ b ∷ []))

unfoldable pub three_bytes : List ℕ → Found
three_bytes [] = None
three_bytes (a ∷ []) = None
three_bytes (a ∷ b ∷ []) = None
three_bytes (a ∷ b ∷ c ∷ rest) = sign_found rest (sign_of (a ∷ b ∷ c ∷ []))

-- the longest sign at the front
unfoldable pub sign : List ℕ → Found
sign text = or_else (three_bytes text) (or_else (two_bytes text) (one_byte text))

-- ---- outside of double quotes

-- a name behind a `::`
abbrev pub scoped : Option (List ℕ) → Found
scoped None = None
scoped (Some text) = or_else (of_kind kind.Word (joined style.Word text)) (of_kind kind.Ref (joined style.Ref text))

abbrev pub scoped_or_sign : List ℕ → Found
scoped_or_sign text = or_else (scoped (after_colons text)) (sign text)

-- the token at the front, by its first byte
abbrev pub token_by : ℕ → List ℕ → Found
token_by b rest = if begins style.Word b then word_found (b ∷ rest) (joined style.Word (b ∷ rest))
    else (if is_upper b then of_kind kind.Ref (joined style.Ref (b ∷ rest))
    else (if b == 36 then of_kind kind.Var (name style.Var rest)
    else (if is_digit b then number (b ∷ rest)
    else (if b == 39 then of_kind kind.Sq (after_sq rest)
    else (if b == 34 then Some (kind.DqOpen, rest)
    else scoped_or_sign (b ∷ rest))))))

-- the token at the front, outside of double quotes
unfoldable pub code_token : List ℕ → Found
code_token [] = None
code_token (b ∷ rest) = token_by b rest

-- ---- within double quotes

abbrev pub begins_with : ℕ → List ℕ → Bool
begins_with c [] = false
begins_with c (b ∷ text) = b == c

-- the digits of `\u{` and the `}`: how many bytes they take
abbrev pub braced_by : List ℕ → List ℕ → Option ℕ
braced_by digits rest = if nat_lt 0 (length digits) && nat_le (length digits) 6 && begins_with 125 rest && is_scalar
    (hex_value digits) then Some (length digits + 1) else None

unfoldable pub braced_len : List ℕ → Option ℕ
braced_len text = braced_by (front_of text (after_all is_hex text)) (after_all is_hex text)

-- how many bytes `u` and four digits take
unfoldable pub four_len : List ℕ → Option ℕ
four_len [] = None
four_len (a ∷ []) = None
four_len (a ∷ b ∷ []) = None
four_len (a ∷ b ∷ c ∷ []) = None
four_len (a ∷ b ∷ c ∷ d ∷ text) = if is_hex a && is_hex b && is_hex c && is_hex d && is_scalar
    (hex_value (a ∷ b ∷ c ∷ d ∷ [])) then Some 5 else None

-- how many bytes the escape of a `\u` takes, without the backslash
abbrev pub unicode_len : List ℕ → Option ℕ
unicode_len [] = None
unicode_len (c ∷ text) = if c == 123 then option_map (λ n. n + 2) (braced_len text) else four_len (c ∷ text)

-- how many bytes behind a backslash belong to its escape; none is a `\u` in another form
abbrev pub escape_len : List ℕ → Option ℕ
escape_len [] = Some 0
escape_len (c ∷ text) = if c == 117 then unicode_len text else (if is_simple_escape c then Some 1 else Some 0)

-- The text behind a `$` makes a variable or opens an expression.
unfoldable pub opens : List ℕ → Bool
opens text = begins_with 123 text || is_some (name style.Var text)

-- how many bytes behind this one belong to the same escape; none where the text in double quotes ends before it
unfoldable pub unit_len : ℕ → List ℕ → Option ℕ
unit_len b text = if b == 34 then None else
    (if b == 36 then (if opens text then None else Some 0) else (if b == 92 then escape_len text else Some 0))

abbrev pub past_unit : (ℕ → List ℕ) → List ℕ → Option ℕ → List ℕ
past_unit from text None = text
past_unit from text (Some n) = from n

-- what is left behind the text in double quotes, of which n bytes belong to an escape
abbrev pub text_from : ℕ → List ℕ → List ℕ
text_from n [] = []
text_from (suc n) (b ∷ text) = text_from n text
text_from zero (b ∷ text) = past_unit (λ n. text_from n text) (b ∷ text) (unit_len b text)

-- text in double quotes, if there is any at the front
unfoldable pub piece : List ℕ → Found
piece text = if nat_lt (length (text_from 0 text)) (length text) then Some (kind.DqText, text_from 0 text) else None

-- what is left behind the brace of a `${`
abbrev pub hole : List ℕ → Option (List ℕ)
hole [] = None
hole (b ∷ rest) = if b == 123 then Some rest else None

-- the token that begins with a `$`, of which that is read
unfoldable pub dollar : List ℕ → Found
dollar text = or_else (of_kind kind.Hole (hole text)) (or_else (of_kind kind.DqVar (name style.Var text)) (piece (36 ∷ text)))

-- the token at the front, within double quotes
unfoldable pub quoted_token : List ℕ → Found
quoted_token [] = None
quoted_token (b ∷ rest) = if b == 34 then Some (kind.DqClose, rest) else (if b == 36 then dollar rest else piece (b ∷ rest))

-- ---- at a place

abbrev pub no_name_first : List ℕ → Bool
no_name_first [] = true
no_name_first (b ∷ rest) = not (is_name b)

-- an INT fits 64 bits with a sign, and no letter, digit or `_` follows a number
abbrev pub number_stands : Kind → List ℕ → List ℕ → Bool
number_stands kind.Int s rest = nat_lt (int_value s) (2 ^ 63) && no_name_first rest
number_stands kind.Float s rest = no_name_first rest
number_stands _ s rest = true

abbrev pub opens_comment : List ℕ → Bool
opens_comment [] = false
opens_comment (b ∷ []) = false
opens_comment (b ∷ c ∷ rest) = (b == 47) && (c == 42)

-- the token, unless it is a number that can't stand there
abbrev pub checked : Place → List ℕ → Found → Found
checked p text None = None
checked p text (Some x) = if number_stands x.0 (front_of text x.1) x.1 then Some (kind_at p x.0 (front_of text x.1), x.1) else None

-- the token at the front, within double quotes or outside
abbrev pub found_at : Bool → List ℕ → Found
found_at true text = quoted_token text
found_at false text = if opens_comment text then None else code_token text

-- the token at the front, at a place
unfoldable pub token_at : Place → List ℕ → Found
token_at p text = checked p text (found_at (in_quotes p.opened) text)

-- a text without its first byte
abbrev pub behind_first : List ℕ → List ℕ
behind_first [] = []
behind_first (b ∷ text) = text

-- what is left behind the first `*/`
abbrev pub after_close : List ℕ → Option (List ℕ)
after_close [] = None
after_close (b ∷ text) = if (b == 42) && begins_with 47 text then Some (behind_first text) else after_close text

-- what is left behind a block comment, of which the first `/` is read
abbrev pub after_block : List ℕ → Option (List ℕ)
after_block [] = None
after_block (b ∷ text) = if b == 42 then after_close text else None

-- what is left behind a blank or a comment
unfoldable pub gap_of : List ℕ → Option (List ℕ)
gap_of [] = None
gap_of (b ∷ text) = if is_blank b then Some text else
    (if b == 35 then Some (after_all (λ c. not (c == 10)) text) else (if b == 47 then after_block text else None))

-- so at a place; within double quotes there is none
abbrev pub gap_at : Place → List ℕ → Option (List ℕ)
gap_at p text = if in_quotes p.opened then None else gap_of text
