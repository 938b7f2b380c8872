-- What the tokens of each kind are spelled as.
use Rattle.std.specs.Prelude.{◌≡◌, ◌≢◌, ◌⊎◌, ℕ, ◌+◌, ◌-◌, ◌*◌, ◌≤◌, Bool, false, ◌==◌, ◌||◌, ◌&&◌, nat_le, if◌then◌else◌, List, [], ◌∷◌, ◌++◌, length, IsTrue, codes}
use Rattle.std.specs.List.{AllByRecursion, list_any}
use Rattle.std.specs.Str.{bytes_eq}
use Rattle.pp_syntax.specs.declared.token.Kind.{Kind}
use Rattle.pp_syntax.specs.declared.token.Kind.TheVariants as kind
use Rattle.pp_syntax.specs.declared.lexer.bytes.Style.{Style}
use Rattle.pp_syntax.specs.declared.lexer.bytes.Style.TheVariants as style
use Rattle.pp_syntax.specs.Bytes.{is_digit, is_octal, is_hex, is_lower, is_upper, is_name}

-- a token: its kind, its text, and the place of its first byte
pub record Lexeme : Type 0 where
  pub kind : Kind
  pub text : List ℕ
  pub at : ℕ

-- bytes of this set alone
abbrev pub Of : (ℕ → Bool) → List ℕ → Type 0
Of test s = AllByRecursion (λ b. IsTrue (test b)) s

-- one or more bytes of this set
abbrev pub SomeOf : (ℕ → Bool) → List ℕ → Type 0
SomeOf test [] = ⊥
SomeOf test (b ∷ s) = IsTrue (test b) × Of test s

-- one of these texts
abbrev pub is_among : List (List ℕ) → List ℕ → Bool
is_among texts s = list_any (λ t. bytes_eq t s) texts

-- ---- names

-- the byte begins a segment of such a name
abbrev pub begins : Style → ℕ → Bool
begins style.Word b = is_lower b || (b == 95)
begins style.Ref b = is_upper b
begins style.Var b = is_lower b || (b == 95)

-- a segment of such a name goes on with the byte
abbrev pub goes_on : Style → ℕ → Bool
goes_on style.Word b = is_name b || (b == 45)
goes_on style.Ref b = is_name b
goes_on style.Var b = is_name b

-- the last byte, if there is one, isn't `-`
abbrev pub NoDashLast : List ℕ → Type 0
NoDashLast [] = Unit {0}
NoDashLast (b ∷ []) = b ≢ 45
NoDashLast (b ∷ c ∷ s) = NoDashLast (c ∷ s)

-- a segment of such a name
abbrev pub Segment : Style → List ℕ → Type 0
Segment how [] = ⊥
Segment how (b ∷ more) = IsTrue (begins how b) × Of (goes_on how) more × NoDashLast more

-- segments with `::` between them
pub data Joined (how : Style) : List ℕ → Type 0 where
  one : {s : List ℕ} → Segment how s → Joined how s
  another : {s : List ℕ} (front back : List ℕ) → Segment how front → Joined how back → s ≡ front ++ (58 ∷ 58 ∷ back) → Joined how s

-- the same, and there may be a `::` in front
abbrev pub Name : Style → List ℕ → Type 0
Name how s = Joined how s ⊎ ((rest : List ℕ) × (s ≡ 58 ∷ 58 ∷ rest) × Joined how rest)

abbrev pub keywords : List (List ℕ)
keywords = codes "and" ∷ codes "or" ∷ codes "in" ∷ codes "if" ∷ codes "elsif" ∷ codes "else" ∷ codes "unless" ∷ codes "case"
    ∷ codes "default" ∷ codes "class" ∷ codes "define" ∷ codes "inherits" ∷ codes "node" ∷ codes "undef" ∷ codes "true" ∷ codes "false" ∷ []

-- ---- numbers

-- 0; digits that don't begin with 0; 0 and octal digits; 0x or 0X and hexadecimal digits
pub data IntText : List ℕ → Type 0 where
  only_zero : {s : List ℕ} → s ≡ codes "0" → IntText s
  decimal : {s : List ℕ} (b : ℕ) (more : List ℕ) → s ≡ b ∷ more → b ≢ 48 → IsTrue (is_digit b) → Of is_digit more → IntText s
  octal : {s : List ℕ} (more : List ℕ) → s ≡ 48 ∷ more → SomeOf is_octal more → IntText s
  hexadecimal : {s : List ℕ} (x : ℕ) (more : List ℕ) → s ≡ 48 ∷ x ∷ more → (x ≡ 120) ⊎ (x ≡ 88) → SomeOf is_hex more → IntText s

-- digits, a dot, digits
pub record FloatText (s : List ℕ) : Type 0 where
  pub whole : List ℕ
  pub fraction : List ℕ
  pub whole_digits : SomeOf is_digit whole
  pub fraction_digits : SomeOf is_digit fraction
  pub parts : s ≡ whole ++ (46 ∷ fraction)

-- what a digit counts for, to any base up to 16
abbrev pub digit_of : ℕ → ℕ
digit_of b = if nat_le b 57 then b - 48 else (if nat_le b 70 then b - 55 else b - 87)

-- digits to this base, behind a number
abbrev pub value_from : ℕ → ℕ → List ℕ → ℕ
value_from base before [] = before
value_from base before (d ∷ digits) = value_from base (before * base + digit_of d) digits

abbrev pub value_after_zero : List ℕ → ℕ
value_after_zero [] = 0
value_after_zero (x ∷ digits) = if (x == 120) || (x == 88) then value_from 16 0 digits else value_from 8 0 (x ∷ digits)

-- the number that an INT stands for
abbrev pub int_value : List ℕ → ℕ
int_value [] = 0
int_value (b ∷ more) = if b == 48 then value_after_zero more else value_from 10 0 (b ∷ more)

-- ---- texts in single quotes

-- A backslash takes the byte behind it with it.
abbrev mutual
  pub SqText : List ℕ → Type 0
  SqText [] = Unit {0}
  SqText (b ∷ s) = ((b ≢ 39) × (b ≢ 92) × SqText s) ⊎ ((b ≡ 92) × SqEscaped s)

  pub SqEscaped : List ℕ → Type 0
  SqEscaped [] = ⊥
  SqEscaped (c ∷ s) = SqText s

-- ---- signs

-- the signs of this language
abbrev pub signs : List (List ℕ)
signs = codes "{" ∷ codes "}" ∷ codes "[" ∷ codes "]" ∷ codes "(" ∷ codes ")" ∷ codes "," ∷ codes ";" ∷ codes ":" ∷ codes "=>" ∷ codes "->" ∷ codes "~>"
    ∷ codes "<-" ∷ codes "<~" ∷ codes "=" ∷ codes "==" ∷ codes "!=" ∷ codes "<" ∷ codes ">" ∷ codes "<=" ∷ codes ">=" ∷ codes "+" ∷ codes "-" ∷ codes "*"
    ∷ codes "!" ∷ codes "?" ∷ codes "@" ∷ codes "<|" ∷ codes "|>" ∷ []

-- signs of Puppet's that this language leaves out
abbrev pub left_out : List (List ℕ)
left_out = codes "@@" ∷ codes "<<|" ∷ codes "|>>" ∷ codes "+>" ∷ codes "=~" ∷ codes "!~" ∷ codes "/" ∷ codes "%" ∷ codes "<<" ∷ codes ">>" ∷ codes "@(" ∷ codes "|" ∷ codes "." ∷ []

-- ---- outside of double quotes

-- the spellings of a kind, wherever they stand
abbrev pub Spelling : Kind → List ℕ → Type 0
Spelling kind.Word s = Name style.Word s × (is_among keywords s ≡ false)
Spelling kind.Keyword s = IsTrue (is_among keywords s)
Spelling kind.Ref s = Name style.Ref s
Spelling kind.Var s = (name : List ℕ) × (s ≡ 36 ∷ name) × Name style.Var name
Spelling kind.Int s = IntText s
Spelling kind.Float s = FloatText s
Spelling kind.Sq s = (raw : List ℕ) × (s ≡ 39 ∷ (raw ++ 39 ∷ [])) × SqText raw
Spelling kind.DqOpen s = s ≡ codes "\""
Spelling kind.Sign s = IsTrue (is_among signs s)
Spelling kind.LeftOut s = IsTrue (is_among left_out s)
Spelling _ s = ⊥

-- ---- within double quotes

-- `\n \r \t \s \$ \" \' \\`: the byte behind the backslash
abbrev pub is_simple_escape : ℕ → Bool
is_simple_escape c = list_any (λ e. e == c) (codes "nrts$\"'\\")

abbrev pub hex_value : List ℕ → ℕ
hex_value digits = value_from 16 0 digits

-- a Unicode scalar value
abbrev pub is_scalar : ℕ → Bool
is_scalar n = nat_le n 55295 || (nat_le 57344 n && nat_le n 1114111)

-- what may stand behind a backslash to make an escape
pub data Escape : List ℕ → Type 0 where
  simple : {s : List ℕ} (c : ℕ) → s ≡ c ∷ [] → IsTrue (is_simple_escape c) → Escape s
  four : {s : List ℕ} (digits : List ℕ) → s ≡ 117 ∷ digits → length digits ≡ 4 → Of is_hex digits
      → IsTrue (is_scalar (hex_value digits)) → Escape s
  braced : {s : List ℕ} (digits : List ℕ) → s ≡ 117 ∷ 123 ∷ (digits ++ 125 ∷ []) → 1 ≤ length digits → length digits ≤ 6
      → Of is_hex digits → IsTrue (is_scalar (hex_value digits)) → Escape s

-- The text behind a backslash: no escape begins here, so the backslash stands for itself.
abbrev pub NoEscape : List ℕ → Type 0
NoEscape [] = Unit {0}
NoEscape (c ∷ s) = (is_simple_escape c ≡ false) × (c ≢ 117)

-- The text behind a `$`: it makes a variable or opens an expression.
abbrev pub Opens : List ℕ → Type 0
Opens s = ((rest : List ℕ) × (s ≡ 123 ∷ rest)) ⊎ ((name : List ℕ) × (rest : List ℕ) × Name style.Var name × (s ≡ name ++ rest))

-- text in double quotes, before this rest
pub data DqPiece : List ℕ → List ℕ → Type 0 where
  nothing : {s rest : List ℕ} → s ≡ [] → DqPiece s rest
  plain : {s rest : List ℕ} (b : ℕ) (more : List ℕ) → s ≡ b ∷ more → b ≢ 34 → b ≢ 36 → b ≢ 92 → DqPiece more rest → DqPiece s rest
  dollar : {s rest : List ℕ} (more : List ℕ) → s ≡ 36 ∷ more → ¬ (Opens (more ++ rest)) → DqPiece more rest → DqPiece s rest
  escape : {s rest : List ℕ} (front more : List ℕ) → s ≡ 92 ∷ (front ++ more) → Escape front → DqPiece more rest → DqPiece s rest
  backslash : {s rest : List ℕ} (more : List ℕ) → s ≡ 92 ∷ more → NoEscape (more ++ rest) → DqPiece more rest → DqPiece s rest

-- the spellings of a kind before this rest
abbrev pub InQuotes : Kind → List ℕ → List ℕ → Type 0
InQuotes kind.DqText s rest = (s ≢ []) × DqPiece s rest
InQuotes kind.DqVar s rest = (name : List ℕ) × (s ≡ 36 ∷ name) × Name style.Var name
InQuotes kind.Hole s rest = s ≡ codes "${"
InQuotes kind.DqClose s rest = s ≡ codes "\""
InQuotes _ s rest = ⊥
