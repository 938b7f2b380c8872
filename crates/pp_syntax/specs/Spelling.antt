-- Which tokens a text spells, and where a text that spells none goes wrong.
use Rattle.std.specs.Prelude.{◌≡◌, ◌≢◌, ℕ, ◌+◌, ◌<◌, ◌≤◌, ◌^◌, Bool, true, false, ◌==◌, not, if◌then◌else◌, List, [], ◌∷◌, ◌++◌, length, IsTrue, codes}
use Rattle.std.specs.Str.{bytes_eq}
use Rattle.pp_syntax.specs.declared.token.Kind.{Kind}
use Rattle.pp_syntax.specs.declared.token.Kind.TheVariants as kind
use Rattle.pp_syntax.specs.declared.lexer.opening.Opening.{Opening}
use Rattle.pp_syntax.specs.declared.lexer.opening.Opening.TheVariants as opening
use Rattle.pp_syntax.specs.declared.lexer.place.Place.{Place}
use Rattle.pp_syntax.specs.Opened.{in_quotes, in_hole, outer_of, closed_brace, Ending, Whole, Fault, ending}
use Rattle.pp_syntax.specs.Bytes.{is_blank, is_name}
use Rattle.pp_syntax.specs.Tokens.{Lexeme, Of, is_among, Spelling, InQuotes, int_value}

-- where a text begins
abbrev pub start : Place
start = record { at = 0; opened = []; tight = false }

-- ---- blanks and comments

-- a block comment behind its `/*`, to the first `*/`
pub data ToClose : List ℕ → Type 0 where
  close : {s : List ℕ} → s ≡ codes "*/" → ToClose s
  more : {s : List ℕ} (b : ℕ) (rest : List ℕ) → s ≡ b ∷ rest → ((tail : List ℕ) → s ≢ 42 ∷ 47 ∷ tail) → ToClose rest → ToClose s

-- a line ends here
abbrev pub AtLineEnd : List ℕ → Type 0
AtLineEnd [] = Unit {0}
AtLineEnd (b ∷ rest) = b ≡ 10

-- a blank, or a comment, before this rest
pub data IsGap (s rest : List ℕ) : Type 0 where
  blank : (b : ℕ) → s ≡ b ∷ [] → IsTrue (is_blank b) → IsGap s rest
  line : (body : List ℕ) → s ≡ 35 ∷ body → Of (λ b. not (b == 10)) body → AtLineEnd rest → IsGap s rest
  block : (body : List ℕ) → s ≡ 47 ∷ 42 ∷ body → ToClose body → IsGap s rest

-- No comment begins here.
abbrev pub NoComment : List ℕ → Type 0
NoComment text = (rest : List ℕ) → text ≢ 47 ∷ 42 ∷ rest

-- ---- one token

-- a spelling of this kind, within double quotes or outside
abbrev pub Fits : Bool → Kind → List ℕ → List ℕ → Type 0
Fits true k s rest = InQuotes k s rest
Fits false k s rest = Spelling k s × NoComment (s ++ rest)

-- where several spellings fit, the longest
pub record IsLongest (quoted : Bool) (k : Kind) (s rest : List ℕ) : Type 0 where
  pub fits : Fits quoted k s rest
  pub longest : (j : Kind) (front back : List ℕ) → Fits quoted j front back → front ++ back ≡ s ++ rest → length front ≤ length s

-- no letter, digit or `_` stands here
abbrev pub NoNameFirst : List ℕ → Type 0
NoNameFirst [] = Unit {0}
NoNameFirst (b ∷ rest) = is_name b ≡ false

-- An INT fits 64 bits with a sign, and no letter, digit or `_` follows a number.
abbrev pub NumberStands : Kind → List ℕ → List ℕ → Type 0
NumberStands kind.Int s rest = (int_value s < 2 ^ 63) × NoNameFirst rest
NumberStands kind.Float s rest = NoNameFirst rest
NumberStands _ s rest = Unit {0}

-- brackets are told apart by where they stand
abbrev pub bracket_kind : Place → List ℕ → Kind
bracket_kind p s = if bytes_eq s (codes "[") then (if p.tight then kind.Tight else kind.Loose)
    else (if bytes_eq s (codes "}") then (if in_hole p.opened then kind.HoleEnd else kind.Sign) else kind.Sign)

abbrev pub kind_at : Place → Kind → List ℕ → Kind
kind_at p kind.Sign s = bracket_kind p s
kind_at p k s = k

-- The token s of kind k stands at this place, before this rest.
pub record TokenAt (p : Place) (k : Kind) (s rest : List ℕ) : Type 0 where
  pub spelled : Kind
  pub longest : IsLongest (in_quotes p.opened) spelled s rest
  pub number : NumberStands spelled s rest
  pub kind_is : k ≡ kind_at p spelled s

-- a blank or a comment at this place, before this rest
abbrev pub GapAt : Place → List ℕ → List ℕ → Type 0
GapAt p s rest = (in_quotes p.opened ≡ false) × IsGap s rest

-- ---- whole texts

-- what is open behind a token
abbrev pub opened_behind : Kind → List ℕ → ℕ → List Opening → List Opening
opened_behind kind.DqOpen s at opened = opening.Quote at ∷ opened
opened_behind kind.Hole s at opened = opening.Hole at ∷ opened
opened_behind kind.DqClose s at opened = outer_of opened
opened_behind kind.HoleEnd s at opened = outer_of opened
opened_behind kind.Sign s at opened = if bytes_eq s (codes "{") then opening.Brace ∷ opened else (if bytes_eq s (codes "}") then closed_brace opened else opened)
opened_behind _ s at opened = opened

-- A `[` directly behind such a token is tight.
abbrev pub ends_tight : Kind → List ℕ → Bool
ends_tight kind.Word s = true
ends_tight kind.Ref s = true
ends_tight kind.Var s = true
ends_tight kind.Sq s = true
ends_tight kind.DqClose s = true
ends_tight kind.Sign s = is_among (codes ")" ∷ codes "]" ∷ []) s
ends_tight _ s = false

-- the place behind a token
abbrev pub behind : Place → Kind → List ℕ → Place
behind p k s = record { at = p.at + length s; opened = opened_behind k s p.at p.opened; tight = ends_tight k s }

-- the place behind a blank or a comment
abbrev pub behind_gap : Place → List ℕ → Place
behind_gap p s = record { at = p.at + length s; opened = p.opened; tight = false }

-- From this place on the text is these tokens, with blanks and comments between and around them, up to this ending.
pub data Reads : Place → List ℕ → List Lexeme → Ending → Type 0 where
  ends : {p : Place} {text : List ℕ} {tokens : List Lexeme} {e : Ending} → text ≡ [] → tokens ≡ [] → e ≡ ending p.opened
      → Reads p text tokens e
  gap : {p : Place} {text : List ℕ} {tokens : List Lexeme} {e : Ending} (s rest : List ℕ) → text ≡ s ++ rest
      → GapAt p s rest → Reads (behind_gap p s) rest tokens e → Reads p text tokens e
  token : {p : Place} {text : List ℕ} {tokens : List Lexeme} {e : Ending} (k : Kind) (s rest : List ℕ)
      (more : List Lexeme) → text ≡ s ++ rest → TokenAt p k s rest
      → tokens ≡ record { kind = k; text = s; at = p.at } ∷ more → Reads (behind p k s) rest more e → Reads p text tokens e
  stuck : {p : Place} {text : List ℕ} {tokens : List Lexeme} {e : Ending} → text ≢ []
      → ((s rest : List ℕ) → text ≡ s ++ rest → ¬ (GapAt p s rest))
      → ((k : Kind) (s rest : List ℕ) → text ≡ s ++ rest → ¬ (TokenAt p k s rest)) → tokens ≡ [] → e ≡ Fault p.at → Reads p text tokens e

-- The text is these tokens in order, with blanks and comments between and around them.
abbrev pub Spells : List ℕ → List Lexeme → Type 0
Spells text tokens = Reads start text tokens Whole

-- The text spells none: here is the first byte that begins no token; or all of it are tokens, and here opens what isn't closed.
abbrev pub FailsAt : List ℕ → ℕ → Type 0
FailsAt text at = (tokens : List Lexeme) × Reads start text tokens (Fault at)
