-- Which tokens spell an expression. Each rule takes the rule for what stands within brackets as an argument.
use Rattle.std.specs.Prelude.{◌≡◌, ℕ, zero, suc, Bool, true, false, ◌==◌, pos, List, [], ◌∷◌, ◌++◌, Option, codes}
use Rattle.std.specs.Prelude as prelude
use Rattle.std.specs.List.{list_any, find}
use Rattle.std.specs.Str.{bytes_eq}
use Rattle.pp_syntax.specs.declared.token.Kind.{Kind}
use Rattle.pp_syntax.specs.declared.token.Kind.TheVariants as kind
use Rattle.pp_syntax.specs.declared.tree.Expr.{Expr}
use Rattle.pp_syntax.specs.declared.tree.Form.TheVariants as form
use Rattle.pp_syntax.specs.declared.tree.Op.{Op}
use Rattle.pp_syntax.specs.declared.tree.Op.TheVariants as op
use Rattle.pp_syntax.specs.Tokens.{Lexeme, int_value}
use Rattle.pp_syntax.specs.TokenValues.{SqOf, DqOf}
use Rattle.pp_syntax.specs.Phrases.{◌then◌, Nothing, Token, Some, Sign, Keyword, Tight, place_of, Listed, MaybeListed}

-- an expression and the tokens that spell it
abbrev pub Rule : Type 1
Rule = Expr → List Lexeme → Type 0

-- ---- operators

-- how tightly an operator binds, `or` the least
abbrev pub level_of : Op → ℕ
level_of op.Or = 0
level_of op.And = 1
level_of op.Less = 2
level_of op.Greater = 2
level_of op.AtMost = 2
level_of op.AtLeast = 2
level_of op.Same = 3
level_of op.NotSame = 3
level_of op.Plus = 4
level_of op.Minus = 4
level_of op.Times = 5
level_of op.In = 6
level_of op.Not = 7

-- how an operator is spelled
abbrev pub op_symbol : Op → List ℕ
op_symbol op.Or = codes "or"
op_symbol op.And = codes "and"
op_symbol op.Less = codes "<"
op_symbol op.Greater = codes ">"
op_symbol op.AtMost = codes "<="
op_symbol op.AtLeast = codes ">="
op_symbol op.Same = codes "=="
op_symbol op.NotSame = codes "!="
op_symbol op.Plus = codes "+"
op_symbol op.Minus = codes "-"
op_symbol op.Times = codes "*"
op_symbol op.In = codes "in"
op_symbol op.Not = codes "!"

-- the kind of its token
abbrev pub op_kind : Op → Kind
op_kind op.Or = kind.Keyword
op_kind op.And = kind.Keyword
op_kind op.In = kind.Keyword
op_kind _ = kind.Sign

-- the first of these operators that is spelled so
abbrev pub op_among : List Op → List ℕ → Option Op
op_among ops s = find (λ o. bytes_eq s (op_symbol o)) ops

-- an operator between two operands; `!` is none
abbrev pub Infix : Op → List Lexeme → Type 0
Infix op.Not tokens = ⊥
Infix o tokens = Some (op_kind o) (op_symbol o) tokens

-- an operator in front of an operand
abbrev pub Prefixed : Op → List Lexeme → Type 0
Prefixed op.Not tokens = Sign (op_symbol op.Not) tokens
Prefixed op.Minus tokens = Sign (op_symbol op.Minus) tokens
Prefixed _ tokens = ⊥

-- an operator of this level, and its right operand
abbrev pub Operation : ℕ → (Expr → List Lexeme → Type 0) → Op × Expr → List Lexeme → Type 0
Operation level A o tokens = (level_of o.0 ≡ level) × (Infix o.0 then A o.1) tokens

-- one behind the other
abbrev pub Operations : ℕ → (Expr → List Lexeme → Type 0) → List (Op × Expr) → List Lexeme → Type 0
Operations level A [] = Nothing
Operations level A (o ∷ more) = Operation level A o then Operations level A more

-- A { operator A }: one operand is itself, and several are a chain that begins where its first token stands
pub data ChainOf (level : ℕ) (A : Expr → List Lexeme → Type 0) (y : Expr) (tokens : List Lexeme) : Type 0 where
  operand : A y tokens → ChainOf level A y tokens
  chain : (first : Expr) (o : Op × Expr) (more : List (Op × Expr)) → y.form ≡ form.Chain first (o ∷ more)
      → y.at ≡ place_of tokens → (A first then Operations level A (o ∷ more)) tokens → ChainOf level A y tokens

-- ---- texts

-- a variable or an expression is among the tokens
abbrev pub is_part : Kind → Bool
is_part kind.DqVar = true
is_part kind.Hole = true
is_part _ = false

-- so of one of them
abbrev pub has_part : List Lexeme → Bool
has_part tokens = list_any (λ t. is_part t.kind) tokens

abbrev pub kind_of_first : List Lexeme → Option Kind
kind_of_first [] = prelude.None
kind_of_first (t ∷ tokens) = prelude.Some t.kind

-- x is a text with nothing but indexes behind it, and y the same with a variable in its place
pub data ReadAsVariable : Expr → Expr → Type 0 where
  base : {x y : Expr} (name : List ℕ) → x.form ≡ form.Str name → y.form ≡ form.Var name → y.at ≡ x.at → ReadAsVariable x y
  index : {x y : Expr} (a b key : Expr) → x.form ≡ form.Index a key → y.form ≡ form.Index b key → y.at ≡ x.at
      → ReadAsVariable a b → ReadAsVariable x y

-- an expression within `${` and `}`; where it is a WORD with nothing but indexes behind it, that is read as a variable
pub data InnerOf (E : Expr → List Lexeme → Type 0) (y : Expr) (tokens : List Lexeme) : Type 0 where
  variable : (x : Expr) → kind_of_first tokens ≡ prelude.Some kind.Word → E x tokens → ReadAsVariable x y → InnerOf E y tokens
  other : E y tokens → (kind_of_first tokens ≡ prelude.Some kind.Word → (z : Expr) → ReadAsVariable y z → ⊥) → InnerOf E y tokens

-- one member of a text in double quotes
pub data MemberOf (E : Expr → List Lexeme → Type 0) (y : Expr) (tokens : List Lexeme) : Type 0 where
  text : (value raw : List ℕ) → Token kind.DqText raw y.at tokens → DqOf value raw → y.form ≡ form.Str value → MemberOf E y tokens
  variable : (name : List ℕ) → Token kind.DqVar (36 ∷ name) y.at tokens → y.form ≡ form.Var name → MemberOf E y tokens
  hole : (Some kind.Hole (codes "${") then InnerOf E y then Some kind.HoleEnd (codes "}")) tokens → MemberOf E y tokens

-- members one behind the other
abbrev pub Members : (Expr → List Lexeme → Type 0) → List Expr → List Lexeme → Type 0
Members E [] = Nothing
Members E (y ∷ more) = MemberOf E y then Members E more

-- text in double quotes without variables and expressions
pub data PlainOf (value : List ℕ) (tokens : List Lexeme) : Type 0 where
  empty : value ≡ [] → tokens ≡ [] → PlainOf value tokens
  text : (raw : List ℕ) (at : ℕ) → Token kind.DqText raw at tokens → DqOf value raw → PlainOf value tokens

-- STRING
pub data StringOf (E : Expr → List Lexeme → Type 0) (y : Expr) (tokens : List Lexeme) : Type 0 where
  single : (value raw : List ℕ) → Token kind.Sq raw y.at tokens → SqOf value raw → y.form ≡ form.Str value → StringOf E y tokens
  plain : (value : List ℕ) → (Token kind.DqOpen (codes "\"") y.at then PlainOf value then Some kind.DqClose (codes "\"")) tokens → y.form ≡ form.Str value → StringOf E y tokens
  joined : (members : List Expr) → (Token kind.DqOpen (codes "\"") y.at then (λ ts. Members E members ts × (has_part ts ≡ true)) then Some kind.DqClose (codes "\"")) tokens → y.form ≡ form.Join members → StringOf E y tokens

-- ---- operands

-- a reference: its kind, and its titles in brackets
pub record ReferenceOf (E : Expr → List Lexeme → Type 0) (y : Expr) (tokens : List Lexeme) : Type 0 where
  pub name : List ℕ
  pub titles : List Expr
  pub spelled : (Token kind.Ref name y.at then Tight then Listed E titles then Sign (codes "]")) tokens
  pub form_is : y.form ≡ form.Refer name titles

-- KEY => VALUE
abbrev pub PairOf : (Expr → List Lexeme → Type 0) → Expr × Expr → List Lexeme → Type 0
PairOf E p = E p.0 then Sign (codes "=>") then E p.1

-- an expression or `default`
abbrev pub OptionOf : (Expr → List Lexeme → Type 0) → Option Expr → List Lexeme → Type 0
OptionOf E prelude.None = Keyword (codes "default")
OptionOf E (prelude.Some e) = E e

-- OPTION => VALUE
abbrev pub ChoiceOf : (Expr → List Lexeme → Type 0) → Option Expr × Expr → List Lexeme → Type 0
ChoiceOf E c = OptionOf E c.0 then Sign (codes "=>") then E c.1

-- an operand by itself
pub data PrimaryOf (E : Expr → List Lexeme → Type 0) (y : Expr) (tokens : List Lexeme) : Type 0 where
  int : (raw : List ℕ) → Token kind.Int raw y.at tokens → y.form ≡ form.Int (pos (int_value raw)) → PrimaryOf E y tokens
  string : StringOf E y tokens → PrimaryOf E y tokens
  word : (name : List ℕ) → Token kind.Word name y.at tokens → y.form ≡ form.Str name → PrimaryOf E y tokens
  variable : (name : List ℕ) → Token kind.Var (36 ∷ name) y.at tokens → y.form ≡ form.Var name → PrimaryOf E y tokens
  truth : Token kind.Keyword (codes "true") y.at tokens → y.form ≡ form.Bool true → PrimaryOf E y tokens
  falsehood : Token kind.Keyword (codes "false") y.at tokens → y.form ≡ form.Bool false → PrimaryOf E y tokens
  undefined : Token kind.Keyword (codes "undef") y.at tokens → y.form ≡ form.Undef → PrimaryOf E y tokens
  enclosed : (Sign (codes "(") then E y then Sign (codes ")")) tokens → PrimaryOf E y tokens
  list : (members : List Expr) → (Token kind.Loose (codes "[") y.at then MaybeListed E members then Sign (codes "]")) tokens → y.form ≡ form.List members → PrimaryOf E y tokens
  map : (pairs : List (Expr × Expr)) → (Token kind.Sign (codes "{") y.at then MaybeListed (PairOf E) pairs then Sign (codes "}")) tokens → y.form ≡ form.Map pairs → PrimaryOf E y tokens
  reference : ReferenceOf E y tokens → PrimaryOf E y tokens

-- an index or a selection behind x, which makes y of it
pub data SuffixOf (E : Expr → List Lexeme → Type 0) (x y : Expr) (tokens : List Lexeme) : Type 0 where
  index : (key : Expr) → (Tight then E key then Sign (codes "]")) tokens → y.form ≡ form.Index x key → SuffixOf E x y tokens
  selection : (choices : List (Option Expr × Expr)) → (Sign (codes "?") then Sign (codes "{") then Listed (ChoiceOf E) choices then Sign (codes "}")) tokens → y.form ≡ form.Select x choices → SuffixOf E x y tokens

-- any number of them, which make y of x; each expression on the way begins at the same place
pub data SuffixesOf (E : Expr → List Lexeme → Type 0) (at : ℕ) : Expr → Expr → List Lexeme → Type 0 where
  none : {x y : Expr} {tokens : List Lexeme} → x ≡ y → tokens ≡ [] → SuffixesOf E at x y tokens
  one : {x y : Expr} {tokens : List Lexeme} (z : Expr) (front back : List Lexeme) → tokens ≡ front ++ back
      → SuffixOf E x z front → z.at ≡ at → SuffixesOf E at z y back → SuffixesOf E at x y tokens

-- an operand with the indexes and selections behind it
pub record PostfixOf (E : Expr → List Lexeme → Type 0) (y : Expr) (tokens : List Lexeme) : Type 0 where
  pub operand : Expr
  pub front : List Lexeme
  pub back : List Lexeme
  pub primary : PrimaryOf E operand front
  pub suffixes : SuffixesOf E (place_of tokens) operand y back
  pub whole : tokens ≡ front ++ back

-- one behind the other
abbrev pub Prefixes : List Op → List Lexeme → Type 0
Prefixes [] = Nothing
Prefixes (o ∷ more) = Prefixed o then Prefixes more

-- an operand with the prefixes before it
pub data UnaryOf (E : Expr → List Lexeme → Type 0) (y : Expr) (tokens : List Lexeme) : Type 0 where
  operand : PostfixOf E y tokens → UnaryOf E y tokens
  prefixed : (o : Op) (more : List Op) (x : Expr) → y.form ≡ form.Prefix (o ∷ more) x → y.at ≡ place_of tokens
      → (Prefixes (o ∷ more) then PostfixOf E x) tokens → UnaryOf E y tokens

-- ---- expressions

-- operators of this level and of those that bind tighter
abbrev pub InOf : (Expr → List Lexeme → Type 0) → Expr → List Lexeme → Type 0
InOf E = ChainOf 6 (UnaryOf E)

abbrev pub ProductOf : (Expr → List Lexeme → Type 0) → Expr → List Lexeme → Type 0
ProductOf E = ChainOf 5 (InOf E)

abbrev pub SumOf : (Expr → List Lexeme → Type 0) → Expr → List Lexeme → Type 0
SumOf E = ChainOf 4 (ProductOf E)

abbrev pub EqualityOf : (Expr → List Lexeme → Type 0) → Expr → List Lexeme → Type 0
EqualityOf E = ChainOf 3 (SumOf E)

abbrev pub ComparisonOf : (Expr → List Lexeme → Type 0) → Expr → List Lexeme → Type 0
ComparisonOf E = ChainOf 2 (EqualityOf E)

abbrev pub AndOf : (Expr → List Lexeme → Type 0) → Expr → List Lexeme → Type 0
AndOf E = ChainOf 1 (ComparisonOf E)

abbrev pub ExprOf : (Expr → List Lexeme → Type 0) → Expr → List Lexeme → Type 0
ExprOf E = ChainOf 0 (AndOf E)

-- the tokens spell the expression, with brackets nested less deep than this
abbrev pub IsExprAt : ℕ → Expr → List Lexeme → Type 0
IsExprAt zero y tokens = ⊥
IsExprAt (suc depth) y tokens = ExprOf (IsExprAt depth) y tokens

-- The tokens spell the expression.
abbrev pub IsExpr : Expr → List Lexeme → Type 0
IsExpr y tokens = (depth : ℕ) × IsExprAt depth y tokens
