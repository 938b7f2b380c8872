-- Words, of which a text is written, and their text.
use Rattle.std.specs.Prelude.{ℕ, Bool, true, false, ◌==◌, ◌||◌, ◌&&◌, if◌then◌else◌, List, [], ◌∷◌, ◌++◌, ℤ, unsigned_abs, decimal, codes}
use Rattle.std.specs.List.{list_any, join_by}
use Rattle.pp_syntax.specs.declared.token.Kind.{Kind}
use Rattle.pp_syntax.specs.declared.token.Kind.TheVariants as kind
use Rattle.pp_syntax.specs.Tokens.{Lexeme, is_among, keywords}
use Rattle.pp_print.specs.declared.words.Word.{Word}

abbrev pub word : Kind → List ℕ → List Word
word k text = record { kind = k; text = text } ∷ []

abbrev pub sign : List ℕ → List Word
sign text = word kind.Sign text

abbrev pub keyword : List ℕ → List Word
keyword text = word kind.Keyword text

abbrev pub comma : List Word
comma = sign (codes ",")

-- the words of tokens
abbrev pub words_in : List Lexeme → List Word
words_in [] = []
words_in (t ∷ ts) = record { kind = t.kind; text = t.text } ∷ words_in ts

-- ---- the text

-- No space stands before the `[` directly behind what it indexes.
abbrev pub clings : Kind → Bool
clings kind.Tight = true
clings _ = false

-- No space stands behind the `"` that opens a text, and behind the `}` that ends a `${`.
abbrev pub holds : Kind → Bool
holds kind.DqOpen = true
holds kind.HoleEnd = true
holds _ = false

-- the words with one space between two of them, but in these places; held: none stands before the first
abbrev pub text_from : Bool → List Word → List ℕ
text_from held [] = []
text_from held (w ∷ words) = (if held || clings w.kind then [] else 32 ∷ []) ++ (w.text ++ text_from (holds w.kind) words)

-- the text of these words
abbrev pub text_of : List Word → List ℕ
text_of words = text_from true words

-- ---- single words

-- A backslash before this text must be escaped, so that it doesn't escape what is behind it.
abbrev pub escapes : List ℕ → Bool
escapes [] = true
escapes (c ∷ text) = (c == 92) || (c == 39)

-- A backslash is needed before this byte of a text in single quotes, which has this behind it.
abbrev pub must_escape : ℕ → List ℕ → Bool
must_escape b text = (b == 39) || ((b == 92) && escapes text)

-- a text with the backslashes that single quotes need
abbrev pub escaped : List ℕ → List ℕ
escaped [] = []
escaped (b ∷ text) = (if must_escape b text then 92 ∷ b ∷ [] else b ∷ []) ++ escaped text

-- a text in single quotes
abbrev pub quoted : List ℕ → List Word
quoted text = word kind.Sq (39 ∷ (escaped text ++ 39 ∷ []))

-- a number in decimal, without its sign
abbrev pub number : ℤ → List Word
number n = word kind.Int (decimal (unsigned_abs n))

abbrev pub has_dash : List ℕ → Bool
has_dash name = list_any (λ b. b == 45) name

-- A variable whose name has a dash can only stand within `${`, where it is a word.
abbrev pub variable : List ℕ → List Word
variable name = if has_dash name then word kind.Word name else word kind.Var (36 ∷ name)

-- a name that may be a keyword
abbrev pub named : List ℕ → List Word
named name = word (if is_among keywords name then kind.Keyword else kind.Word) name

-- ---- brackets and lists

abbrev pub in_parens : List Word → List Word
in_parens words = sign (codes "(") ++ (words ++ sign (codes ")"))

abbrev pub in_braces : List Word → List Word
in_braces words = sign (codes "{") ++ (words ++ sign (codes "}"))

-- behind what is indexed
abbrev pub in_tight : List Word → List Word
in_tight words = word kind.Tight (codes "[") ++ (words ++ sign (codes "]"))

abbrev pub in_loose : List Word → List Word
in_loose words = word kind.Loose (codes "[") ++ (words ++ sign (codes "]"))

-- with commas between them
abbrev pub listed : {X : Type 0} → (X → List Word) → List X → List Word
listed f xs = join_by f comma xs
