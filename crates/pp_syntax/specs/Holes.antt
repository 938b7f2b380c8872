-- What stands within `${` and `}`, by the two cases of the grammar: a WORD and indexes, or an expression. Derivations say the same of trees.
use Rattle.std.specs.Prelude.{◌≡◌, ℕ, List, [], ◌∷◌, ◌++◌, codes}
use Rattle.pp_syntax.specs.declared.token.Kind.TheVariants as kind
use Rattle.pp_syntax.specs.declared.tree.Expr.{Expr}
use Rattle.pp_syntax.specs.declared.tree.Form.TheVariants as form
use Rattle.pp_syntax.specs.Tokens.{Lexeme}
use Rattle.pp_syntax.specs.Phrases.{◌then◌, Sign, Tight}

-- any number of indexes, which make y of x; each expression on the way begins at the same place
pub data IndexesOf (E : Expr → List Lexeme → Type 0) (at : ℕ) : Expr → Expr → List Lexeme → Type 0 where
  none : {x y : Expr} {tokens : List Lexeme} → x ≡ y → tokens ≡ [] → IndexesOf E at x y tokens
  one : {x y : Expr} {tokens : List Lexeme} (z key : Expr) (front back : List Lexeme) → tokens ≡ front ++ back → (Tight then E key then Sign (codes "]")) front → z.form ≡ form.Index x key → z.at ≡ at
      → IndexesOf E at z y back → IndexesOf E at x y tokens

-- a WORD, which is read as a variable, and indexes behind it
pub record WordOf (E : Expr → List Lexeme → Type 0) (y : Expr) (tokens : List Lexeme) : Type 0 where
  pub variable : Expr
  pub name : List ℕ
  pub back : List Lexeme
  pub whole : tokens ≡ record { kind = kind.Word; text = name; at = variable.at } ∷ back
  pub form_is : variable.form ≡ form.Var name
  pub indexes : IndexesOf E variable.at variable y back

-- WORD { TIGHT expr "]" } | expr, where the first case counts if it fits
pub data IsInner (E : Expr → List Lexeme → Type 0) (y : Expr) (tokens : List Lexeme) : Type 0 where
  word : WordOf E y tokens → IsInner E y tokens
  expression : E y tokens → ((z : Expr) → WordOf E z tokens → ⊥) → IsInner E y tokens
