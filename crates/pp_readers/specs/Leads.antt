-- What can't go on behind a statement.
use Rattle.std.specs.Prelude.{◌≡◌, ℕ, Bool, true, false, List, [], ◌∷◌, codes}
use Rattle.pp_syntax.specs.declared.token.Kind.{Kind}
use Rattle.pp_syntax.specs.declared.token.Kind.TheVariants as kind
use Rattle.pp_syntax.specs.Tokens.{Lexeme, is_among}
use Rattle.pp_readers.specs.Parsed.{NothingGoesOn}
use Rattle.pp_readers.specs.Combining.{begins}
use Rattle.pp_readers.specs.Names.{begins_arrow}

-- No operator, index, selection, arrow, comma, `elsif` or `else` stands first.
pub record NothingFollows (rest : List Lexeme) : Type 0 where
  pub no_operator : NothingGoesOn rest
  pub no_arrow : begins_arrow rest ≡ false
  pub no_comma : begins kind.Sign (codes ",") rest ≡ false
  pub no_elsif : begins kind.Keyword (codes "elsif") rest ≡ false
  pub no_else : begins kind.Keyword (codes "else") rest ≡ false

-- a token that begins a statement: a word, a variable, a reference's name, a `[` that isn't tight, `class`, `if`, `unless`, `case` or `@`
abbrev pub begins_by : Kind → List ℕ → Bool
begins_by kind.Word s = true
begins_by kind.Var s = true
begins_by kind.Ref s = true
begins_by kind.Loose s = true
begins_by kind.Keyword s = is_among (codes "class" ∷ codes "if" ∷ codes "unless" ∷ codes "case" ∷ []) s
begins_by kind.Sign s = is_among (codes "@" ∷ []) s
begins_by _ s = false

abbrev pub BeginsStatement : List Lexeme → Type 0
BeginsStatement [] = ⊥
BeginsStatement (t ∷ ts) = begins_by t.kind t.text ≡ true
