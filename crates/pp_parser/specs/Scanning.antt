-- Scanning tokens from left to right for the first that goes wrong.
use Rattle.std.specs.Prelude.{ℕ, Bool, true, false, not, ◌&&◌, nat_lt, if◌then◌else◌, List, [], ◌∷◌, Option, Some, None, codes}
use Rattle.std.specs.Str.{bytes_eq}
use Rattle.rh_base.specs.declared.limits.TheConstants.{NESTING}
use Rattle.pp_syntax.specs.declared.token.Kind.{Kind}
use Rattle.pp_syntax.specs.declared.token.Kind.TheVariants as kind
use Rattle.pp_syntax.specs.Tokens.{Lexeme, is_among}
use Rattle.pp_syntax.specs.Statements.{functions}
use Rattle.pp_parser.specs.declared.depth.Nesting.{Nesting}
use Rattle.pp_parser.specs.Nested.{shape_of, behind_shape, depth_of}

abbrev pub is_sign : Kind → Bool
is_sign kind.Sign = true
is_sign _ = false

-- The next token is this sign.
abbrev pub begins_with : List ℕ → List Lexeme → Bool
begins_with text [] = false
begins_with text (t ∷ tokens) = is_sign t.kind && bytes_eq t.text text

-- The token is `class` or `define`.
abbrev pub names_by : Kind → List ℕ → Bool
names_by kind.Keyword text = is_among (codes "class" ∷ codes "define" ∷ []) text
names_by _ text = false

abbrev pub names_follow : Bool → Lexeme → Bool
names_follow before t = names_by t.kind t.text

abbrev pub left_out_by : Kind → List ℕ → Bool → List Lexeme → Bool
left_out_by kind.LeftOut text names behind = true
left_out_by kind.Float text names behind = true
left_out_by kind.Sign text names behind = bytes_eq text (codes "*") && begins_with (codes "=>") behind
left_out_by kind.Word text names behind = not (is_among functions text) && begins_with (codes "(") behind && not names
left_out_by _ text names behind = false

-- names: the token before is `class` or `define`
abbrev pub is_left_out : Bool → Lexeme → List Lexeme → Bool
is_left_out names t behind = left_out_by t.kind t.text names behind

-- the first token that passes a test of what is known of the tokens before it, of itself and of the tokens behind it
abbrev pub first_where : {S : Type 0} → (S → Lexeme → S) → (S → Lexeme → List Lexeme → Bool) → S → List Lexeme → Option Lexeme
first_where step test s [] = None
first_where step test s (t ∷ tokens) = if test s t tokens then Some t else first_where step test (step s t) tokens

-- the first token that is left out
abbrev pub first_left_out : Bool → List Lexeme → Option Lexeme
first_left_out names tokens = first_where names_follow is_left_out names tokens

-- what counts behind a token
abbrev pub behind : Nesting → Lexeme → Nesting
behind n t = behind_shape n (shape_of t.kind t.text)

-- the token is nested too deep
abbrev pub is_too_deep : Nesting → Lexeme → List Lexeme → Bool
is_too_deep n t tokens = nat_lt NESTING (depth_of n (shape_of t.kind t.text))

-- the first token that is nested too deep
abbrev pub first_too_deep : Nesting → List Lexeme → Option Lexeme
first_too_deep n tokens = first_where behind is_too_deep n tokens
