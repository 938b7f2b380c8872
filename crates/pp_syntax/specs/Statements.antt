-- Which tokens spell a statement, and a manifest. Each rule takes the rule for expressions, and that for the statements of a block, as arguments.
use Rattle.std.specs.Prelude.{◌≡◌, ℕ, zero, suc, Bool, true, false, ◌==◌, ℤ, pos, List, [], ◌∷◌, map, Option, codes}
use Rattle.std.specs.Prelude as prelude
use Rattle.std.specs.List.{list_any, find}
use Rattle.std.specs.Str.{bytes_eq}
use Rattle.pp_syntax.specs.declared.token.Kind.TheVariants as kind
use Rattle.pp_syntax.specs.declared.tree.Expr.{Expr}
use Rattle.pp_syntax.specs.declared.tree.Form.TheVariants as form
use Rattle.pp_syntax.specs.declared.tree.Attr.{Attr}
use Rattle.pp_syntax.specs.declared.tree.Body.{Body}
use Rattle.pp_syntax.specs.declared.tree.Search.{Search}
use Rattle.pp_syntax.specs.declared.tree.Search.TheVariants as search
use Rattle.pp_syntax.specs.declared.tree.Operand.{Operand}
use Rattle.pp_syntax.specs.declared.tree.Operand.TheVariants as operand
use Rattle.pp_syntax.specs.declared.tree.Arrow.{Arrow}
use Rattle.pp_syntax.specs.declared.tree.Arrow.TheVariants as arrow
use Rattle.pp_syntax.specs.declared.tree.Func.{Func}
use Rattle.pp_syntax.specs.declared.tree.Func.TheVariants as func
use Rattle.pp_syntax.specs.declared.tree.Stmt.{Stmt}
use Rattle.pp_syntax.specs.declared.tree.Stmt.TheVariants as stmt
use Rattle.pp_syntax.specs.declared.tree.Arm.{Arm, out-Arm}
use Rattle.pp_syntax.specs.declared.tree.CaseArm.{CaseArm, out-CaseArm}
use Rattle.pp_syntax.specs.declared.tree.TypeName.{TypeName}
use Rattle.pp_syntax.specs.declared.tree.TypeName.TheVariants as type
use Rattle.pp_syntax.specs.declared.tree.Param.{Param}
use Rattle.pp_syntax.specs.declared.tree.Item.{Item}
use Rattle.pp_syntax.specs.declared.tree.Item.TheVariants as item
use Rattle.pp_syntax.specs.declared.tree.Manifest.{Manifest}
use Rattle.pp_syntax.specs.Tokens.{Lexeme, is_among, int_value}
use Rattle.pp_syntax.specs.TokenValues.{SqOf}
use Rattle.pp_syntax.specs.Phrases.{◌then◌, Nothing, Maybe, Token, Some, Sign, Keyword, Tight, Loose, Comma, place_of, Each, Separated, Listed, MaybeListed}
use Rattle.pp_syntax.specs.Derivation.{OptionOf, StringOf, PostfixOf, ReferenceOf, IsExpr}

-- ---- names

-- a name with `::`: a `:` stands in names only as part of that
abbrev pub is_qualified : List ℕ → Bool
is_qualified name = list_any (λ b. b == 58) name

-- a WORD without `::`, or a keyword
pub data NameOf (name : List ℕ) (tokens : List Lexeme) : Type 0 where
  word : Some kind.Word name tokens → is_qualified name ≡ false → NameOf name tokens
  keyword : Keyword name tokens → NameOf name tokens

-- a variable without `::`
abbrev pub VariableOf : List ℕ → List Lexeme → Type 0
VariableOf name tokens = Some kind.Var (36 ∷ name) tokens × (is_qualified name ≡ false)

-- the words that are functions
abbrev pub word_of : Func → List ℕ
word_of func.Include = codes "include"
word_of func.Require = codes "require"
word_of func.Contain = codes "contain"
word_of func.Realize = codes "realize"
word_of func.Fail = codes "fail"
word_of func.Notice = codes "notice"
word_of func.Warning = codes "warning"

-- all functions
abbrev pub all_functions : List Func
all_functions = func.Include ∷ func.Require ∷ func.Contain ∷ func.Realize ∷ func.Fail ∷ func.Notice ∷ func.Warning ∷ []

-- their words
abbrev pub functions : List (List ℕ)
functions = map word_of all_functions

-- the first of these functions whose word it is
abbrev pub function_among : List Func → List ℕ → Option Func
function_among fs s = find (λ f. bytes_eq s (word_of f)) fs

-- the function that a word is
abbrev pub function_of : List ℕ → Option Func
function_of s = function_among all_functions s

-- ---- resources

-- NAME => expr
abbrev pub AttrOf : (Expr → List Lexeme → Type 0) → Attr → List Lexeme → Type 0
AttrOf E a tokens = (a.at ≡ place_of tokens) × (NameOf a.name then Sign (codes "=>") then E a.value) tokens

-- expr ":" [ attrs ]
abbrev pub BodyOf : (Expr → List Lexeme → Type 0) → Body → List Lexeme → Type 0
BodyOf E b = E b.title then Sign (codes ":") then MaybeListed (AttrOf E) b.attrs

-- bodies with `;` between them, and there may be one at the end
abbrev pub BodiesOf : (Expr → List Lexeme → Type 0) → List Body → List Lexeme → Type 0
BodiesOf E bodies = Separated (Sign (codes ";")) (BodyOf E) bodies then Maybe (Sign (codes ";"))

abbrev pub InBraces : (List Lexeme → Type 0) → List Lexeme → Type 0
InBraces A = Sign (codes "{") then A then Sign (codes "}")

-- ---- searches

-- NAME == postfix, NAME != postfix, or a search in brackets, which leave nothing in the tree
pub data AtomOf (E : Expr → List Lexeme → Type 0) (S : Search → List Lexeme → Type 0) (y : Search) (tokens : List Lexeme) : Type 0 where
  equal : (name : List ℕ) (value : Expr) → y ≡ search.Equal name value → (NameOf name then Sign (codes "==") then PostfixOf E value) tokens → AtomOf E S y tokens
  differ : (name : List ℕ) (value : Expr) → y ≡ search.Differ name value → (NameOf name then Sign (codes "!=") then PostfixOf E value) tokens → AtomOf E S y tokens
  enclosed : (Sign (codes "(") then S y then Sign (codes ")")) tokens → AtomOf E S y tokens

-- atoms with `and` between them
pub data ConjunctionOf (E : Expr → List Lexeme → Type 0) (S : Search → List Lexeme → Type 0) (y : Search)
    (tokens : List Lexeme) : Type 0 where
  atom : AtomOf E S y tokens → ConjunctionOf E S y tokens
  conjunction : (first second : Search) (more : List Search) → y ≡ search.And (first ∷ second ∷ more) → Separated (Keyword (codes "and")) (AtomOf E S) (first ∷ second ∷ more) tokens → ConjunctionOf E S y tokens

-- conjunctions with `or` between them
pub data SearchOf (E : Expr → List Lexeme → Type 0) (S : Search → List Lexeme → Type 0) (y : Search) (tokens : List Lexeme) : Type 0 where
  conjunction : ConjunctionOf E S y tokens → SearchOf E S y tokens
  disjunction : (first second : Search) (more : List Search) → y ≡ search.Or (first ∷ second ∷ more) → Separated (Keyword (codes "or")) (ConjunctionOf E S) (first ∷ second ∷ more) tokens → SearchOf E S y tokens

-- with brackets nested less deep than this
abbrev pub IsSearchAt : (Expr → List Lexeme → Type 0) → ℕ → Search → List Lexeme → Type 0
IsSearchAt E zero y tokens = ⊥
IsSearchAt E (suc depth) y tokens = SearchOf E (IsSearchAt E depth) y tokens

-- The tokens spell the search.
abbrev pub IsSearch : (Expr → List Lexeme → Type 0) → Search → List Lexeme → Type 0
IsSearch E y tokens = (depth : ℕ) × IsSearchAt E depth y tokens

abbrev pub MaybeSearch : (Expr → List Lexeme → Type 0) → Option Search → List Lexeme → Type 0
MaybeSearch E prelude.None = Nothing
MaybeSearch E (prelude.Some y) = IsSearch E y

-- ---- chains of resources, collectors and references

-- `@` before a virtual resource
abbrev pub Virtual : Bool → List Lexeme → Type 0
Virtual true = Sign (codes "@")
Virtual false = Nothing

-- one side of a chain: a resource or a class that is declared, a collector, or references
pub data OperandOf (E : Expr → List Lexeme → Type 0) (y : Operand) (tokens : List Lexeme) : Type 0 where
  resource : (at : ℕ) (virtual : Bool) (name : List ℕ) (bodies : List Body) → y ≡ operand.Declare at virtual name bodies
      → at ≡ place_of tokens → is_among functions name ≡ false
      → (Virtual virtual then Some kind.Word name then InBraces (BodiesOf E bodies)) tokens → OperandOf E y tokens
  class : (at : ℕ) (bodies : List Body) → y ≡ operand.Declare at false (codes "class") bodies → (Token kind.Keyword (codes "class") at then InBraces (BodiesOf E bodies)) tokens → OperandOf E y tokens
  collector : (at : ℕ) (name : List ℕ) (sought : Option Search) → y ≡ operand.Collect at name sought → (Token kind.Ref name at then Sign (codes "<|") then MaybeSearch E sought then Sign (codes "|>")) tokens → OperandOf E y tokens
  reference : (x : Expr) → y ≡ operand.Named (x ∷ []) → ReferenceOf E x tokens → OperandOf E y tokens
  references : (xs : List Expr) → y ≡ operand.Named xs → (Loose then Listed (ReferenceOf E) xs then Sign (codes "]")) tokens → OperandOf E y tokens

-- how an arrow is spelled
abbrev pub arrow_symbol : Arrow → List ℕ
arrow_symbol arrow.Before = codes "->"
arrow_symbol arrow.Notify = codes "~>"
arrow_symbol arrow.After = codes "<-"
arrow_symbol arrow.Follow = codes "<~"

-- the first of these arrows that is spelled so
abbrev pub arrow_among : List Arrow → List ℕ → Option Arrow
arrow_among arrows s = find (λ a. bytes_eq s (arrow_symbol a)) arrows

-- the arrow that is spelled so
abbrev pub arrow_of : List ℕ → Option Arrow
arrow_of s = arrow_among (arrow.Before ∷ arrow.Notify ∷ arrow.After ∷ arrow.Follow ∷ []) s

abbrev pub ArrowOf : Arrow → List Lexeme → Type 0
ArrowOf a = Sign (arrow_symbol a)

-- arrows, each with an operand behind it
abbrev pub Links : (Expr → List Lexeme → Type 0) → List Arrow → List Operand → List Lexeme → Type 0
Links E [] [] = Nothing
Links E [] (y ∷ ys) = λ tokens. ⊥
Links E (a ∷ arrows) [] = λ tokens. ⊥
Links E (a ∷ arrows) (y ∷ ys) = ArrowOf a then OperandOf E y then Links E arrows ys

-- A chain of one operand is a resource or a collector.
abbrev pub StandsAlone : Operand → List Operand → Type 0
StandsAlone (operand.Declare at virtual name bodies) others = Unit {0}
StandsAlone (operand.Collect at name sought) others = Unit {0}
StandsAlone (operand.Named xs) [] = ⊥
StandsAlone (operand.Named xs) (y ∷ others) = Unit {0}

-- ---- statements

-- The arguments of a call without brackets begin with neither `(` nor `{`.
abbrev pub begins_with_bracket : List Lexeme → Bool
begins_with_bracket [] = false
begins_with_bracket (t ∷ tokens) = is_among (codes "(" ∷ codes "{" ∷ []) t.text

-- the arguments of a call
pub data ArgsOf (E : Expr → List Lexeme → Type 0) (args : List Expr) (tokens : List Lexeme) : Type 0 where
  bracketed : (Sign (codes "(") then Listed E args then Sign (codes ")")) tokens → ArgsOf E args tokens
  bare : Separated Comma E args tokens → begins_with_bracket tokens ≡ false → ArgsOf E args tokens

-- statements one behind the other
abbrev pub Statements : (Stmt → List Lexeme → Type 0) → List Stmt → List Lexeme → Type 0
Statements S [] = Nothing
Statements S (s ∷ more) = S s then Statements S more

-- statements in braces
abbrev pub BlockOf : (Stmt → List Lexeme → Type 0) → List Stmt → List Lexeme → Type 0
BlockOf S body = InBraces (Statements S body)

-- A block of no statements may be left out with its `else`.
abbrev pub ElseOf : (Stmt → List Lexeme → Type 0) → List Stmt → List Lexeme → Type 0
ElseOf S [] = Maybe (Keyword (codes "else") then BlockOf S [])
ElseOf S (s ∷ more) = Keyword (codes "else") then BlockOf S (s ∷ more)

-- a test and its block
abbrev pub ArmOf : (Expr → List Lexeme → Type 0) → (Stmt → List Lexeme → Type 0) → Arm → List Lexeme → Type 0
ArmOf E S a = E (out-Arm a).test then BlockOf S (out-Arm a).body

-- options, `:` and their block
abbrev pub CaseArmOf : (Expr → List Lexeme → Type 0) → (Stmt → List Lexeme → Type 0) → CaseArm → List Lexeme → Type 0
CaseArmOf E S a = Listed (OptionOf E) (out-CaseArm a).options then Sign (codes ":") then BlockOf S (out-CaseArm a).body

abbrev pub CaseArms : (Expr → List Lexeme → Type 0) → (Stmt → List Lexeme → Type 0) → List CaseArm → List Lexeme → Type 0
CaseArms E S [] = Nothing
CaseArms E S (a ∷ more) = CaseArmOf E S a then CaseArms E S more

-- a statement, by the rule for those in its blocks
pub data StmtOf (E : Expr → List Lexeme → Type 0) (S : Stmt → List Lexeme → Type 0) (y : Stmt) (tokens : List Lexeme) : Type 0 where
  chain : (at : ℕ) (first : Operand) (others : List Operand) (arrows : List Arrow)
      → y ≡ stmt.Chain at (first ∷ others) arrows → at ≡ place_of tokens
      → (OperandOf E first then Links E arrows others) tokens → StandsAlone first others → StmtOf E S y tokens
  assign : (at : ℕ) (name : List ℕ) (value : Expr) → y ≡ stmt.Assign at name value → at ≡ place_of tokens → (VariableOf name then Sign (codes "=") then E value) tokens → StmtOf E S y tokens
  call : (at : ℕ) (f : Func) (args : List Expr) → y ≡ stmt.Call at f args
      → (Token kind.Word (word_of f) at then ArgsOf E args) tokens → StmtOf E S y tokens
  if : (at : ℕ) (first : Arm) (others : List Arm) (other : List Stmt) → y ≡ stmt.If at (first ∷ others) other
      → (Token kind.Keyword (codes "if") at then ArmOf E S first then Each (Keyword (codes "elsif")) (ArmOf E S) others then ElseOf S other) tokens → StmtOf E S y tokens
  unless : (at : ℕ) (test : Expr) (body other : List Stmt) → y ≡ stmt.Unless at test body other → (Token kind.Keyword (codes "unless") at then E test then BlockOf S body then ElseOf S other) tokens → StmtOf E S y tokens
  case : (at : ℕ) (value : Expr) (arms : List CaseArm) → y ≡ stmt.Case at value arms → (Token kind.Keyword (codes "case") at then E value then InBraces (CaseArms E S arms)) tokens → StmtOf E S y tokens

-- with blocks nested less deep than this
abbrev pub IsStmtAt : (Expr → List Lexeme → Type 0) → ℕ → Stmt → List Lexeme → Type 0
IsStmtAt E zero y tokens = ⊥
IsStmtAt E (suc depth) y tokens = StmtOf E (IsStmtAt E depth) y tokens

-- ---- types of parameters

-- the bounds behind `String`, of which the lower is 0 where none stands there
pub data TextBounds (least : ℤ) (most : Option ℤ) (tokens : List Lexeme) : Type 0 where
  none : least ≡ pos 0 → most ≡ prelude.None → tokens ≡ [] → TextBounds least most tokens
  lower : (low : List ℕ) → least ≡ pos (int_value low) → most ≡ prelude.None → (Tight then Some kind.Int low then Sign (codes "]")) tokens → TextBounds least most tokens
  both : (low high : List ℕ) → least ≡ pos (int_value low) → most ≡ prelude.Some (pos (int_value high)) → (Tight then Some kind.Int low then Comma then Some kind.Int high then Sign (codes "]")) tokens → TextBounds least most tokens

-- the bounds behind `Integer`
pub data NumberBounds (least most : Option ℤ) (tokens : List Lexeme) : Type 0 where
  none : least ≡ prelude.None → most ≡ prelude.None → tokens ≡ [] → NumberBounds least most tokens
  lower : (low : List ℕ) → least ≡ prelude.Some (pos (int_value low)) → most ≡ prelude.None → (Tight then Some kind.Int low then Sign (codes "]")) tokens → NumberBounds least most tokens
  both : (low high : List ℕ) → least ≡ prelude.Some (pos (int_value low)) → most ≡ prelude.Some (pos (int_value high)) → (Tight then Some kind.Int low then Comma then Some kind.Int high then Sign (codes "]")) tokens → NumberBounds least most tokens

abbrev pub TypeWord : List ℕ → List Lexeme → Type 0
TypeWord name = Some kind.Ref name

-- a text in single quotes
abbrev pub QuotedText : List ℕ → List Lexeme → Type 0
QuotedText value tokens = (raw : List ℕ) × Some kind.Sq raw tokens × SqOf value raw

-- the type of a parameter, by the rule for those within its brackets
pub data TypeOf (T : TypeName → List Lexeme → Type 0) (y : TypeName) (tokens : List Lexeme) : Type 0 where
  any : y ≡ type.Any → TypeWord (codes "Any") tokens → TypeOf T y tokens
  boolean : y ≡ type.Boolean → TypeWord (codes "Boolean") tokens → TypeOf T y tokens
  hash : y ≡ type.Hash → TypeWord (codes "Hash") tokens → TypeOf T y tokens
  text : (least : ℤ) (most : Option ℤ) → y ≡ type.Str least most → (TypeWord (codes "String") then TextBounds least most) tokens → TypeOf T y tokens
  number : (least most : Option ℤ) → y ≡ type.Int least most → (TypeWord (codes "Integer") then NumberBounds least most) tokens → TypeOf T y tokens
  array : y ≡ type.Array prelude.None → TypeWord (codes "Array") tokens → TypeOf T y tokens
  array_of : (member : TypeName) → y ≡ type.Array (prelude.Some member) → (TypeWord (codes "Array") then Tight then T member then Sign (codes "]")) tokens → TypeOf T y tokens
  optional : (member : TypeName) → y ≡ type.Optional member → (TypeWord (codes "Optional") then Tight then T member then Sign (codes "]")) tokens → TypeOf T y tokens
  enum : (texts : List (List ℕ)) → y ≡ type.Enum texts → (TypeWord (codes "Enum") then Tight then Listed QuotedText texts then Sign (codes "]")) tokens → TypeOf T y tokens
  variant : (members : List TypeName) → y ≡ type.Variant members → (TypeWord (codes "Variant") then Tight then Listed T members then Sign (codes "]")) tokens → TypeOf T y tokens

-- with brackets nested less deep than this
abbrev pub IsTypeAt : ℕ → TypeName → List Lexeme → Type 0
IsTypeAt zero y tokens = ⊥
IsTypeAt (suc depth) y tokens = TypeOf (IsTypeAt depth) y tokens

-- The tokens spell the type.
abbrev pub IsType : TypeName → List Lexeme → Type 0
IsType y tokens = (depth : ℕ) × IsTypeAt depth y tokens

-- ---- items

abbrev pub MaybeType : Option TypeName → List Lexeme → Type 0
MaybeType prelude.None = Nothing
MaybeType (prelude.Some y) = IsType y

abbrev pub DefaultOf : (Expr → List Lexeme → Type 0) → Option Expr → List Lexeme → Type 0
DefaultOf E prelude.None = Nothing
DefaultOf E (prelude.Some x) = Sign (codes "=") then E x

-- a parameter, of which the type and the default may be left out
abbrev pub ParamOf : (Expr → List Lexeme → Type 0) → Param → List Lexeme → Type 0
ParamOf E p = MaybeType p.kind then VariableOf p.name then DefaultOf E p.default

-- No parameters may be left out with their brackets.
abbrev pub ParamsOf : (Expr → List Lexeme → Type 0) → List Param → List Lexeme → Type 0
ParamsOf E [] = Maybe (Sign (codes "(") then Sign (codes ")"))
ParamsOf E (p ∷ more) = Sign (codes "(") then Listed (ParamOf E) (p ∷ more) then Sign (codes ")")

abbrev pub ParentOf : Option (List ℕ) → List Lexeme → Type 0
ParentOf prelude.None = Nothing
ParentOf (prelude.Some name) = Keyword (codes "inherits") then Some kind.Word name

-- `default`, a word, or a text without variables and expressions
pub data NodeNameOf (E : Expr → List Lexeme → Type 0) : Option (List ℕ) → List Lexeme → Type 0 where
  default : {y : Option (List ℕ)} {tokens : List Lexeme} → y ≡ prelude.None → Keyword (codes "default") tokens → NodeNameOf E y tokens
  word : {y : Option (List ℕ)} {tokens : List Lexeme} (name : List ℕ) → y ≡ prelude.Some name
      → Some kind.Word name tokens → NodeNameOf E y tokens
  text : {y : Option (List ℕ)} {tokens : List Lexeme} (name : List ℕ) (x : Expr) → y ≡ prelude.Some name
      → StringOf E x tokens → x.form ≡ form.Str name → NodeNameOf E y tokens

-- what may stand at the top of a manifest
pub data ItemOf (E : Expr → List Lexeme → Type 0) (S : Stmt → List Lexeme → Type 0) (y : Item) (tokens : List Lexeme) : Type 0 where
  class : (at : ℕ) (name : List ℕ) (params : List Param) (parent : Option (List ℕ)) (body : List Stmt)
      → y ≡ item.Class at name params parent body
      → (Token kind.Keyword (codes "class") at then Some kind.Word name then ParamsOf E params then ParentOf parent then BlockOf S body) tokens → ItemOf E S y tokens
  define : (at : ℕ) (name : List ℕ) (params : List Param) (body : List Stmt) → y ≡ item.Define at name params body
      → (Token kind.Keyword (codes "define") at then Some kind.Word name then ParamsOf E params then BlockOf S body) tokens → ItemOf E S y tokens
  node : (at : ℕ) (names : List (Option (List ℕ))) (body : List Stmt) → y ≡ item.Node at names body
      → (Token kind.Keyword (codes "node") at then Listed (NodeNameOf E) names then BlockOf S body) tokens → ItemOf E S y tokens
  defaults : (at : ℕ) (name : List ℕ) (attrs : List Attr) → y ≡ item.Defaults at name attrs
      → (Token kind.Ref name at then InBraces (MaybeListed (AttrOf E) attrs)) tokens → ItemOf E S y tokens
  plain : (s : Stmt) → y ≡ item.Plain s → S s tokens → ItemOf E S y tokens

abbrev pub Items : (Expr → List Lexeme → Type 0) → (Stmt → List Lexeme → Type 0) → List Item → List Lexeme → Type 0
Items E S [] = Nothing
Items E S (y ∷ more) = ItemOf E S y then Items E S more

-- The tokens spell the manifest.
abbrev pub IsManifest : Manifest → List Lexeme → Type 0
IsManifest m tokens = (depth : ℕ) × Items IsExpr (IsStmtAt IsExpr depth) m.items tokens
