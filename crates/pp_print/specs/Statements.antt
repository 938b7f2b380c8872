-- The words of statements, types and manifests: each without what can be left out.
use Rattle.std.specs.Prelude.{ℕ, ◌+◌, Bool, true, false, ◌==◌, nat_le, if◌then◌else◌, ℤ, unsigned_abs, List, [], ◌∷◌, ◌++◌, Option, codes}
use Rattle.std.specs.Prelude as prelude
use Rattle.std.specs.List.{flat_map, join_by}
use Rattle.pp_syntax.specs.declared.token.Kind.TheVariants as kind
use Rattle.pp_syntax.specs.declared.tree.Expr.{Expr}
use Rattle.pp_syntax.specs.declared.tree.Attr.{Attr}
use Rattle.pp_syntax.specs.declared.tree.Body.{Body}
use Rattle.pp_syntax.specs.declared.tree.Search.{Search, Search-F, fold-Search}
use Rattle.pp_syntax.specs.declared.tree.Search.TheOpen as search
use Rattle.pp_syntax.specs.declared.tree.Operand.{Operand}
use Rattle.pp_syntax.specs.declared.tree.Operand.TheVariants as operand
use Rattle.pp_syntax.specs.declared.tree.Arrow.{Arrow}
use Rattle.pp_syntax.specs.declared.tree.Stmt.{Stmt, Stmt-F, fold-Stmt}
use Rattle.pp_syntax.specs.declared.tree.Stmt.TheOpen as stmt
use Rattle.pp_syntax.specs.declared.tree.Stmt.TheOpen.{Arm-F, CaseArm-F}
use Rattle.pp_syntax.specs.declared.tree.Arm.{Arm, out-Arm}
use Rattle.pp_syntax.specs.declared.tree.CaseArm.{CaseArm, out-CaseArm}
use Rattle.pp_syntax.specs.declared.tree.TypeName.{TypeName, TypeName-F, fold-TypeName}
use Rattle.pp_syntax.specs.declared.tree.TypeName.TheOpen as type
use Rattle.pp_syntax.specs.declared.tree.Param.{Param}
use Rattle.pp_syntax.specs.declared.tree.Item.{Item}
use Rattle.pp_syntax.specs.declared.tree.Item.TheVariants as item
use Rattle.pp_syntax.specs.declared.tree.Manifest.{Manifest}
use Rattle.pp_syntax.specs.Statements.{word_of, arrow_symbol}
use Rattle.pp_print.specs.declared.words.Word.{Word}
use Rattle.pp_print.specs.Words.{word, sign, keyword, comma, quoted, number, named, in_parens, in_braces, in_tight, in_loose, listed}
use Rattle.pp_print.specs.Expressions.{printed, expr_words, at_level, option_by}

-- ---- resources

abbrev pub attr_words : Attr → List Word
attr_words a = named a.name ++ (sign (codes "=>") ++ expr_words a.value)

abbrev pub body_words : Body → List Word
body_words b = expr_words b.title ++ (sign (codes ":") ++ listed attr_words b.attrs)

abbrev pub bodies_words : List Body → List Word
bodies_words bodies = join_by body_words (sign (codes ";")) bodies

-- ---- searches

-- the words of a search, and its level: 0 for `or`, 1 for `and`, 2 for a comparison
pub record Sought : Type 0 where
  pub words : List Word
  pub level : ℕ

abbrev pub sought_at : ℕ → Sought → List Word
sought_at level s = if nat_le level s.level then s.words else in_parens s.words

abbrev pub compared : List ℕ → List ℕ → Expr → List Word
compared name mark value = named name ++ (sign mark ++ at_level 8 (printed value))

abbrev pub search_by : {X : Type 0} → (X → Sought) → Search-F X → Sought
search_by f (search.Or all) = record { words = join_by (λ x. sought_at 1 (f x)) (keyword (codes "or")) all; level = 0 }
search_by f (search.And all) = record { words = join_by (λ x. sought_at 2 (f x)) (keyword (codes "and")) all; level = 1 }
search_by f (search.Equal name value) = record { words = compared name (codes "==") value; level = 2 }
search_by f (search.Differ name value) = record { words = compared name (codes "!=") value; level = 2 }

unfoldable pub sought : Search → Sought
sought s = fold-Search Sought (search_by (λ p. p)) s

-- ---- chains of resources, collectors and references

abbrev pub virtual_words : Bool → List Word
virtual_words true = sign (codes "@")
virtual_words false = []

abbrev pub maybe_search : Option Search → List Word
maybe_search prelude.None = []
maybe_search (prelude.Some s) = (sought s).words

-- One reference needs no brackets.
abbrev pub references : List Expr → List Word
references [] = in_loose []
references (x ∷ []) = expr_words x
references (x ∷ y ∷ more) = in_loose (listed expr_words (x ∷ y ∷ more))

abbrev pub operand_words : Operand → List Word
operand_words (operand.Declare at virtual name bodies) = virtual_words virtual ++ (named name ++ in_braces (bodies_words bodies))
operand_words (operand.Collect at name s) = word kind.Ref name ++ (sign (codes "<|") ++ (maybe_search s ++ sign (codes "|>")))
operand_words (operand.Named xs) = references xs

abbrev pub arrow_words : Arrow → List Word
arrow_words a = sign (arrow_symbol a)

-- arrows, each with the operand behind it
abbrev pub links : List Arrow → List Operand → List Word
links [] sides = []
links (a ∷ arrows) [] = []
links (a ∷ arrows) (y ∷ sides) = arrow_words a ++ (operand_words y ++ links arrows sides)

abbrev pub chain_words : List Operand → List Arrow → List Word
chain_words [] arrows = []
chain_words (y ∷ sides) arrows = operand_words y ++ links arrows sides

-- ---- each statement, where the words of the statements in it are given

abbrev pub block_by : {S : Type 0} → (S → List Word) → List S → List Word
block_by s body = in_braces (flat_map s body)

-- An `else` of no statements is left out.
abbrev pub else_by : {S : Type 0} → (S → List Word) → List S → List Word
else_by s [] = []
else_by s (x ∷ more) = keyword (codes "else") ++ block_by s (x ∷ more)

module _ {S A C : Type 0} (s : S → List Word) (a : A → List Word) (c : C → List Word) where
  abbrev pub stmt_by : Stmt-F S A C → List Word
  stmt_by (stmt.Chain at sides arrows) = chain_words sides arrows
  stmt_by (stmt.Assign at name value) = word kind.Var (36 ∷ name) ++ (sign (codes "=") ++ expr_words value)
  stmt_by (stmt.Call at func args) = word kind.Word (word_of func) ++ in_parens (listed expr_words args)
  stmt_by (stmt.If at arms other) = keyword (codes "if") ++ (join_by a (keyword (codes "elsif")) arms ++ else_by s other)
  stmt_by (stmt.Unless at test body other) = keyword (codes "unless") ++ (expr_words test ++ (block_by s body ++ else_by s other))
  stmt_by (stmt.Case at value arms) = keyword (codes "case") ++ (expr_words value ++ in_braces (flat_map c arms))

abbrev pub arm_by : {S A C : Type 0} → (S → List Word) → Arm-F S A C → List Word
arm_by s arm = expr_words arm.test ++ block_by s arm.body

abbrev pub case_arm_by : {S A C : Type 0} → (S → List Word) → CaseArm-F S A C → List Word
case_arm_by s arm = listed (option_by expr_words) arm.options ++ (sign (codes ":") ++ block_by s arm.body)

unfoldable pub stmt_words : Stmt → List Word
stmt_words s = fold-Stmt (List Word) (List Word) (List Word) (stmt_by (λ w. w) (λ w. w) (λ w. w)) (arm_by (λ w. w)) (case_arm_by (λ w. w)) s

abbrev pub arm_words : Arm → List Word
arm_words a = arm_by stmt_words (out-Arm a)

abbrev pub case_arm_words : CaseArm → List Word
case_arm_words a = case_arm_by stmt_words (out-CaseArm a)

-- ---- types of parameters

-- `String[0]` says no more than `String`.
abbrev pub text_bounds : ℤ → Option ℤ → List Word
text_bounds least prelude.None = if unsigned_abs least == 0 then [] else in_tight (number least)
text_bounds least (prelude.Some most) = in_tight (number least ++ (comma ++ number most))

abbrev pub number_bounds : Option ℤ → Option ℤ → List Word
number_bounds prelude.None most = []
number_bounds (prelude.Some least) prelude.None = in_tight (number least)
number_bounds (prelude.Some least) (prelude.Some most) = in_tight (number least ++ (comma ++ number most))

abbrev pub type_word : List ℕ → List Word
type_word name = word kind.Ref name

abbrev pub member_by : {X : Type 0} → (X → List Word) → Option X → List Word
member_by f prelude.None = []
member_by f (prelude.Some x) = in_tight (f x)

abbrev pub type_by : {X : Type 0} → (X → List Word) → TypeName-F X → List Word
type_by f type.Any = type_word (codes "Any")
type_by f type.Boolean = type_word (codes "Boolean")
type_by f type.Hash = type_word (codes "Hash")
type_by f (type.Str least most) = type_word (codes "String") ++ text_bounds least most
type_by f (type.Int least most) = type_word (codes "Integer") ++ number_bounds least most
type_by f (type.Array member) = type_word (codes "Array") ++ member_by f member
type_by f (type.Optional member) = type_word (codes "Optional") ++ in_tight (f member)
type_by f (type.Enum texts) = type_word (codes "Enum") ++ in_tight (listed quoted texts)
type_by f (type.Variant members) = type_word (codes "Variant") ++ in_tight (listed f members)

unfoldable pub type_words : TypeName → List Word
type_words t = fold-TypeName (List Word) (type_by (λ w. w)) t

-- ---- items

abbrev pub maybe_type : Option TypeName → List Word
maybe_type prelude.None = []
maybe_type (prelude.Some t) = type_words t

abbrev pub default_words : Option Expr → List Word
default_words prelude.None = []
default_words (prelude.Some x) = sign (codes "=") ++ expr_words x

abbrev pub param_words : Param → List Word
param_words p = maybe_type p.kind ++ (word kind.Var (36 ∷ p.name) ++ default_words p.default)

-- No parameters are left out with their brackets.
abbrev pub params_words : List Param → List Word
params_words [] = []
params_words (p ∷ more) = in_parens (listed param_words (p ∷ more))

abbrev pub parent_words : Option (List ℕ) → List Word
parent_words prelude.None = []
parent_words (prelude.Some name) = keyword (codes "inherits") ++ word kind.Word name

abbrev pub block_words : List Stmt → List Word
block_words body = block_by stmt_words body

abbrev pub item_words : Item → List Word
item_words (item.Class at name params parent body) = keyword (codes "class") ++ (word kind.Word name ++ (params_words params ++ (parent_words parent ++ block_words body)))
item_words (item.Define at name params body) = keyword (codes "define") ++ (word kind.Word name ++ (params_words params ++ block_words body))
item_words (item.Node at names body) = keyword (codes "node") ++ (listed (option_by quoted) names ++ block_words body)
item_words (item.Defaults at name attrs) = word kind.Ref name ++ in_braces (listed attr_words attrs)
item_words (item.Plain s) = stmt_words s

abbrev pub manifest_words : Manifest → List Word
manifest_words m = flat_map item_words m.items
