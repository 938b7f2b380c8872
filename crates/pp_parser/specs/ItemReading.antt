-- Reading parameters, definitions and whole manifests from tokens. Each function takes the readers of expressions, of types and of statements.
use Rattle.std.specs.Prelude.{ℕ, ◌+◌, Bool, true, false, not, if◌then◌else◌, List, [], ◌∷◌, length, Option, Some, None, codes}
use Rattle.std.specs.Str.{bytes_eq}
use Rattle.pp_syntax.specs.declared.token.Kind.{Kind}
use Rattle.pp_syntax.specs.declared.token.Kind.TheVariants as kind
use Rattle.pp_syntax.specs.declared.tree.Expr.{Expr}
use Rattle.pp_syntax.specs.declared.tree.Form.{Form}
use Rattle.pp_syntax.specs.declared.tree.Form.TheVariants as form
use Rattle.pp_syntax.specs.declared.tree.Attr.{Attr}
use Rattle.pp_syntax.specs.declared.tree.Stmt.{Stmt}
use Rattle.pp_syntax.specs.declared.tree.TypeName.{TypeName}
use Rattle.pp_syntax.specs.declared.tree.Param.{Param}
use Rattle.pp_syntax.specs.declared.tree.Item.{Item}
use Rattle.pp_syntax.specs.declared.tree.Item.TheVariants as item
use Rattle.pp_syntax.specs.Tokens.{Lexeme}
use Rattle.pp_readers.specs.Marks.{Found, front_of, mark}
use Rattle.rh_base.specs.Reading.{◌>>=◌}
use Rattle.pp_readers.specs.Expressions.{maybe_items, string_with, expr_at}
use Rattle.pp_readers.specs.Combining.{Reader, both, made, behind, begins, many, listed}
use Rattle.pp_readers.specs.Names.{taken, variable_by, ref_by}
use Rattle.pp_readers.specs.Statements.{attributes_with, block_with, stmt_at}
use Rattle.pp_parser.specs.TypeReading.{optional, shaped, type_at}

-- ---- parameters

abbrev pub is_ref : Kind → Bool
is_ref kind.Ref = true
is_ref _ = false

abbrev pub ref_in : Found Lexeme → Bool
ref_in None = false
ref_in (Some t) = is_ref t.0.kind

-- a type begins with its name, and a parameter without one with a variable
abbrev pub begins_type : List Lexeme → Bool
begins_type ts = ref_in (front_of ts)

abbrev pub maybe_type : Reader TypeName → Reader (Option TypeName)
maybe_type t = optional begins_type t

abbrev pub param_of : Option TypeName × (List ℕ × Option Expr) → Param
param_of p = record { kind = p.0; name = p.1.0; default = p.1.1 }

abbrev pub default_with : Reader Expr → Reader (Option Expr)
default_with e = optional (begins kind.Sign (codes "=")) (behind kind.Sign (codes "=") e)

abbrev pub param_with : Reader Expr → Reader TypeName → Reader Param
param_with e t = shaped param_of (both (maybe_type t) (both (taken variable_by) (default_with e)))

abbrev pub params_in : Reader Expr → Reader TypeName → Reader (List Param)
params_in e t ts = maybe_items (codes ")") (param_with e t) (length ts + 1) ts

-- parameters in brackets, or none
abbrev pub params_with : Reader Expr → Reader TypeName → Reader (List Param)
params_with e t ts = if begins kind.Sign (codes "(") ts then behind kind.Sign (codes "(") (params_in e t) ts else Some ([], ts)

-- ---- definitions

abbrev pub word_by : Kind → List ℕ → Option (List ℕ)
word_by kind.Word s = Some s
word_by _ s = None

abbrev pub parent_with : Reader (Option (List ℕ))
parent_with = optional (begins kind.Keyword (codes "inherits")) (behind kind.Keyword (codes "inherits") (taken word_by))

abbrev pub class_of : ℕ → List ℕ × (List Param × (Option (List ℕ) × List Stmt)) → Item
class_of at p = item.Class at p.0 p.1.0 p.1.1.0 p.1.1.1

abbrev pub class_with : Reader Expr → Reader TypeName → Reader Stmt → Reader Item
class_with e t s = made class_of (behind kind.Keyword (codes "class") (both (taken word_by) (both (params_with e t) (both parent_with (block_with s)))))

abbrev pub define_of : ℕ → List ℕ × (List Param × List Stmt) → Item
define_of at p = item.Define at p.0 p.1.0 p.1.1

abbrev pub define_with : Reader Expr → Reader TypeName → Reader Stmt → Reader Item
define_with e t s = made define_of (behind kind.Keyword (codes "define") (both (taken word_by) (both (params_with e t) (block_with s))))

-- the name that a text is
abbrev pub text_of : Form → Option (List ℕ)
text_of (form.Str name) = Some name
text_of f = None

abbrev pub text_name : Reader Expr → Reader (Option (List ℕ))
text_name e ts = string_with e ts >>= λ x. text_of x.0.form >>= λ n. Some (Some n, x.1)

abbrev pub default_name : Reader (Option (List ℕ))
default_name ts = mark kind.Keyword (codes "default") ts >>= λ o. Some (None, o.1)

abbrev pub word_name : Reader (Option (List ℕ))
word_name = shaped Some (taken word_by)

abbrev pub node_name_by : Reader Expr → Kind → Reader (Option (List ℕ))
node_name_by e kind.Keyword ts = default_name ts
node_name_by e kind.Word ts = word_name ts
node_name_by e _ ts = text_name e ts

abbrev pub node_name_of : Reader Expr → Found Lexeme → Reader (Option (List ℕ))
node_name_of e None ts = None
node_name_of e (Some t) ts = node_name_by e t.0.kind ts

abbrev pub node_name_with : Reader Expr → Reader (Option (List ℕ))
node_name_with e ts = node_name_of e (front_of ts) ts

-- no bracket that opens a block stands first
abbrev pub unopened : List Lexeme → Bool
unopened ts = not (begins kind.Sign (codes "{") ts)

abbrev pub node_names_with : Reader Expr → Reader (List (Option (List ℕ)))
node_names_with e ts = if unopened ts then listed (codes ",") unopened (node_name_with e) (length ts + 1) ts else None

abbrev pub node_of : ℕ → List (Option (List ℕ)) × List Stmt → Item
node_of at p = item.Node at p.0 p.1

abbrev pub node_with : Reader Expr → Reader Stmt → Reader Item
node_with e s = made node_of (behind kind.Keyword (codes "node") (both (node_names_with e) (block_with s)))

abbrev pub defaults_of : ℕ → List ℕ × List Attr → Item
defaults_of at p = item.Defaults at p.0 p.1

abbrev pub defaults_with : Reader Expr → Reader Item
defaults_with e = made defaults_of (both (taken ref_by) (attributes_with e))

-- ---- items

abbrev pub plain_with : Reader Stmt → Reader Item
plain_with s = shaped item.Plain s

-- a class with a name is defined, and one without is declared
abbrev pub class_or_plain : Reader Expr → Reader TypeName → Reader Stmt → Bool → Reader Item
class_or_plain e t s named ts = if named then class_with e t s ts else plain_with s ts

abbrev pub keyed_with : Reader Expr → Reader TypeName → Reader Stmt → List ℕ → Bool → Reader Item
keyed_with e t s word named ts = if bytes_eq word (codes "class") then class_or_plain e t s named ts else (
    if bytes_eq word (codes "define") then define_with e t s ts else (if bytes_eq word (codes "node") then node_with e s ts else plain_with s ts))

abbrev pub defaults_or_plain : Reader Expr → Reader Stmt → Bool → Reader Item
defaults_or_plain e s named ts = if named then plain_with s ts else defaults_with e ts

abbrev pub item_by : Reader Expr → Reader TypeName → Reader Stmt → Kind → List ℕ → Bool → Reader Item
item_by e t s kind.Keyword word named ts = keyed_with e t s word named ts
item_by e t s kind.Ref word named ts = defaults_or_plain e s named ts
item_by e t s _ word named ts = plain_with s ts

abbrev pub item_of : Reader Expr → Reader TypeName → Reader Stmt → Found Lexeme → Reader Item
item_of e t s None ts = None
item_of e t s (Some f) ts = item_by e t s f.0.kind f.0.text (unopened f.1) ts

abbrev pub item_with : Reader Expr → Reader TypeName → Reader Stmt → Reader Item
item_with e t s ts = item_of e t s (front_of ts) ts

abbrev pub has_token : List Lexeme → Bool
has_token [] = false
has_token (t ∷ ts) = true

abbrev pub items_with : Reader Expr → Reader TypeName → Reader Stmt → Reader (List Item)
items_with e t s ts = many has_token (item_with e t s) (length ts + 1) ts

-- the items of a manifest, with brackets and blocks nested less deep than this
abbrev pub items_at : ℕ → Reader (List Item)
items_at depth = items_with (expr_at depth) (type_at depth) (stmt_at (expr_at depth) depth)
