-- Reading statements from tokens. Each function takes the reader of expressions, and that of the statements of a block.
use Rattle.std.specs.Prelude.{ℕ, zero, suc, ◌+◌, Bool, true, false, if◌then◌else◌, not, List, [], ◌∷◌, ◌++◌, length, Option, Some, None, codes}
use Rattle.std.specs.Str.{bytes_eq}
use Rattle.pp_syntax.specs.declared.token.Kind.{Kind}
use Rattle.pp_syntax.specs.declared.token.Kind.TheVariants as kind
use Rattle.pp_syntax.specs.declared.tree.Expr.{Expr}
use Rattle.pp_syntax.specs.declared.tree.Attr.{Attr}
use Rattle.pp_syntax.specs.declared.tree.Body.{Body}
use Rattle.pp_syntax.specs.declared.tree.Search.{Search}
use Rattle.pp_syntax.specs.declared.tree.Search.TheVariants as search
use Rattle.pp_syntax.specs.declared.tree.Operand.{Operand}
use Rattle.pp_syntax.specs.declared.tree.Operand.TheVariants as operand
use Rattle.pp_syntax.specs.declared.tree.Arrow.{Arrow}
use Rattle.pp_syntax.specs.declared.tree.Func.{Func}
use Rattle.pp_syntax.specs.declared.tree.Stmt.{Stmt}
use Rattle.pp_syntax.specs.declared.tree.Stmt.TheVariants as stmt
use Rattle.pp_syntax.specs.declared.tree.Arm.{Arm, roll-Arm}
use Rattle.pp_syntax.specs.declared.tree.CaseArm.{CaseArm, roll-CaseArm}
use Rattle.pp_syntax.specs.Tokens.{Lexeme}
use Rattle.pp_readers.specs.Marks.{Found, front_of, first_at, mark}
use Rattle.rh_base.specs.Reading.{◌>>=◌}
use Rattle.pp_readers.specs.Expressions.{with_front, items, option_with, reference_with, postfix_with}
use Rattle.pp_readers.specs.Combining.{Reader, both, made, behind, before, in_braces, begins, many, listed}
use Rattle.pp_readers.specs.Names.{taken, name_by, begins_name, variable_by, ref_by, function_by, type_by, arrow_by, begins_arrow, begins_bracket}

-- ---- attributes and bodies

abbrev pub attr_of : ℕ → List ℕ × Expr → Attr
attr_of at p = record { at = at; name = p.0; value = p.1 }

abbrev pub attr_with : Reader Expr → Reader Attr
attr_with e = made attr_of (both (taken name_by) (behind kind.Sign (codes "=>") e))

abbrev pub attrs_with : Reader Expr → Reader (List Attr)
attrs_with e ts = listed (codes ",") begins_name (attr_with e) (length ts + 1) ts

abbrev pub body_of : ℕ → Expr × List Attr → Body
body_of at p = record { title = p.0; attrs = p.1 }

abbrev pub body_with : Reader Expr → Reader Body
body_with e = made body_of (both e (behind kind.Sign (codes ":") (attrs_with e)))

-- no bracket that closes a block stands first
abbrev pub unclosed : List Lexeme → Bool
unclosed ts = not (begins kind.Sign (codes "}") ts)

abbrev pub bodies_with : Reader Expr → Reader (List Body)
bodies_with e ts = if unclosed ts then listed (codes ";") unclosed (body_with e) (length ts + 1) ts else None

-- ---- searches

abbrev pub equal_with : Reader Expr → List ℕ → Reader Search
equal_with p name ts = p ts >>= λ v. Some (search.Equal name v.0, v.1)

abbrev pub differ_with : Reader Expr → List ℕ → Reader Search
differ_with p name = behind kind.Sign (codes "!=") (λ ts. p ts >>= λ v. Some (search.Differ name v.0, v.1))

abbrev pub compared_or : Reader Expr → List ℕ → Found ℕ → Reader Search
compared_or p name None ts = differ_with p name ts
compared_or p name (Some o) ts = equal_with p name o.1

-- behind a name
abbrev pub compared_with : Reader Expr → List ℕ → Reader Search
compared_with p name ts = compared_or p name (mark kind.Sign (codes "==") ts) ts

abbrev pub comparison_with : Reader Expr → Reader Search
comparison_with p ts = taken name_by ts >>= λ n. compared_with p n.0 n.1

abbrev pub atom_or : Reader Expr → Reader Search → Found ℕ → Reader Search
atom_or p s None ts = comparison_with p ts
atom_or p s (Some o) ts = before s kind.Sign (codes ")") o.1

abbrev pub atom_with : Reader Expr → Reader Search → Reader Search
atom_with p s ts = atom_or p s (mark kind.Sign (codes "(") ts) ts

-- the one that there is
abbrev pub only : List Search → Option Search
only [] = None
only (y ∷ []) = Some y
only (y ∷ z ∷ more) = None

abbrev pub are_many : List Search → Bool
are_many [] = false
are_many (y ∷ []) = false
are_many (y ∷ z ∷ more) = true

-- all of these hold
abbrev pub all_of : List Search → Option Search
all_of ys = if are_many ys then Some (search.And ys) else only ys

abbrev pub ands_with : Reader Expr → Reader Search → ℕ → Reader (List Search)
ands_with p s = many (begins kind.Keyword (codes "and")) (behind kind.Keyword (codes "and") (atom_with p s))

abbrev pub conjunction_with : Reader Expr → Reader Search → Reader Search
conjunction_with p s ts = atom_with p s ts >>= λ y. with_front (y.0 ∷ [])
    (ands_with p s (length y.1 + 1) y.1) >>= λ ys. all_of ys.0 >>= λ z. Some (z, ys.1)

-- one of these holds
abbrev pub any_of : List Search → Option Search
any_of ys = if are_many ys then Some (search.Or ys) else only ys

abbrev pub ors_with : Reader Expr → Reader Search → ℕ → Reader (List Search)
ors_with p s = many (begins kind.Keyword (codes "or")) (behind kind.Keyword (codes "or") (conjunction_with p s))

abbrev pub search_with : Reader Expr → Reader Search → Reader Search
search_with p s ts = conjunction_with p s ts >>= λ y. with_front (y.0 ∷ [])
    (ors_with p s (length y.1 + 1) y.1) >>= λ ys. any_of ys.0 >>= λ z. Some (z, ys.1)

-- with brackets nested less deep than this
abbrev pub search_at : Reader Expr → ℕ → Reader Search
search_at p zero ts = None
search_at p (suc depth) ts = search_with p (search_at p depth) ts

-- a search, or none before the sign that ends a collector
abbrev pub sought_with : Reader Expr → Reader (Option Search)
sought_with p ts = if begins kind.Sign (codes "|>") ts then Some (None, ts) else (search_at p (length ts + 1) ts >>= λ y. Some (Some y.0, y.1))

-- ---- operands of a chain

abbrev pub resource_of : Bool → ℕ → List ℕ × List Body → Operand
resource_of virtual at p = operand.Declare at virtual p.0 p.1

abbrev pub declared_with : Reader Expr → Reader (List ℕ × List Body)
declared_with e = both (taken type_by) (in_braces (bodies_with e))

abbrev pub resource_with : Reader Expr → Reader Operand
resource_with e = made (resource_of false) (declared_with e)

abbrev pub virtual_with : Reader Expr → Reader Operand
virtual_with e = made (resource_of true) (behind kind.Sign (codes "@") (declared_with e))

abbrev pub class_of : ℕ → List Body → Operand
class_of at bodies = operand.Declare at false (codes "class") bodies

abbrev pub class_with : Reader Expr → Reader Operand
class_with e = made class_of (behind kind.Keyword (codes "class") (in_braces (bodies_with e)))

abbrev pub collector_of : ℕ → List ℕ × Option Search → Operand
collector_of at p = operand.Collect at p.0 p.1

abbrev pub collector_with : Reader Expr → Reader Operand
collector_with e = made collector_of (both (taken ref_by) (behind kind.Sign (codes "<|") (before (sought_with (postfix_with e)) kind.Sign (codes "|>"))))

abbrev pub named_one : ℕ → Expr → Operand
named_one at x = operand.Named (x ∷ [])

abbrev pub reference_operand : Reader Expr → Reader Operand
reference_operand e = made named_one (reference_with e)

abbrev pub named_all : ℕ → List Expr → Operand
named_all at xs = operand.Named xs

abbrev pub references_in : Reader Expr → Reader (List Expr)
references_in e ts = items (codes "]") (reference_with e) (length ts + 1) ts

abbrev pub references_with : Reader Expr → Reader Operand
references_with e = made named_all (behind kind.Loose (codes "[") (references_in e))

-- behind a type's name
abbrev pub collects : Found Lexeme → Bool
collects None = false
collects (Some t) = begins kind.Sign (codes "<|") t.1

abbrev pub collected_with : Reader Expr → Reader Operand
collected_with e ts = if collects (front_of ts) then collector_with e ts else reference_operand e ts

abbrev pub operand_by : Reader Expr → Kind → Reader Operand
operand_by e kind.Word ts = resource_with e ts
operand_by e kind.Sign ts = virtual_with e ts
operand_by e kind.Keyword ts = class_with e ts
operand_by e kind.Ref ts = collected_with e ts
operand_by e kind.Loose ts = references_with e ts
operand_by e _ ts = None

abbrev pub operand_of : Reader Expr → Found Lexeme → Reader Operand
operand_of e None ts = None
operand_of e (Some t) ts = operand_by e t.0.kind ts

abbrev pub operand_with : Reader Expr → Reader Operand
operand_with e ts = operand_of e (front_of ts) ts

-- ---- chains

abbrev pub link_with : Reader Expr → Reader (Arrow × Operand)
link_with e = both (taken arrow_by) (operand_with e)

abbrev pub sides_of : List (Arrow × Operand) → List Operand
sides_of [] = []
sides_of (l ∷ links) = l.1 ∷ sides_of links

abbrev pub arrows_of : List (Arrow × Operand) → List Arrow
arrows_of [] = []
arrows_of (l ∷ links) = l.0 ∷ arrows_of links

-- arrows with operands, behind such sides and arrows
abbrev pub with_links : List Operand → List Arrow → Found (List (Arrow × Operand)) → Found (List Operand × List Arrow)
with_links sides arrows None = None
with_links sides arrows (Some l) = Some ((sides ++ sides_of l.0, arrows ++ arrows_of l.0), l.1)

abbrev pub sides_with : Reader Expr → Reader (List Operand × List Arrow)
sides_with e ts = operand_with e ts >>= λ y. with_links (y.0 ∷ []) [] (many begins_arrow (link_with e) (length y.1 + 1) y.1)

abbrev pub is_named : Operand → Bool
is_named (operand.Declare at virtual name bodies) = false
is_named (operand.Collect at name sought) = false
is_named (operand.Named xs) = true

-- One side alone is no reference.
abbrev pub chain_of : ℕ → List Operand × List Arrow → Option Stmt
chain_of at ([], arrows) = None
chain_of at (y ∷ [], arrows) = if is_named y then None else Some (stmt.Chain at (y ∷ []) arrows)
chain_of at (y ∷ z ∷ sides, arrows) = Some (stmt.Chain at (y ∷ z ∷ sides) arrows)

abbrev pub chain_with : Reader Expr → Reader Stmt
chain_with e ts = sides_with e ts >>= λ l. chain_of (first_at ts) l.0 >>= λ s. Some (s, l.1)

-- ---- assignments and calls

abbrev pub assign_of : ℕ → List ℕ × Expr → Stmt
assign_of at p = stmt.Assign at p.0 p.1

abbrev pub assign_with : Reader Expr → Reader Stmt
assign_with e = made assign_of (both (taken variable_by) (behind kind.Sign (codes "=") e))

abbrev pub bracketed_with : Reader Expr → Reader (List Expr)
bracketed_with e ts = items (codes ")") e (length ts + 1) ts

abbrev pub more_args : Reader Expr → ℕ → Reader (List Expr)
more_args e = many (begins kind.Sign (codes ",")) (behind kind.Sign (codes ",") e)

-- arguments without brackets
abbrev pub bare_with : Reader Expr → Reader (List Expr)
bare_with e ts = e ts >>= λ x. with_front (x.0 ∷ []) (more_args e (length x.1 + 1) x.1)

abbrev pub args_or : Reader Expr → Found ℕ → Reader (List Expr)
args_or e None ts = if begins_bracket ts then None else bare_with e ts
args_or e (Some o) ts = bracketed_with e o.1

abbrev pub args_with : Reader Expr → Reader (List Expr)
args_with e ts = args_or e (mark kind.Sign (codes "(") ts) ts

abbrev pub call_of : ℕ → Func × List Expr → Stmt
call_of at p = stmt.Call at p.0 p.1

abbrev pub call_with : Reader Expr → Reader Stmt
call_with e = made call_of (both (taken function_by) (args_with e))

-- ---- blocks

abbrev pub statements_in : Reader Stmt → Reader (List Stmt)
statements_in s ts = many unclosed s (length ts + 1) ts

abbrev pub block_with : Reader Stmt → Reader (List Stmt)
block_with s = in_braces (statements_in s)

-- the block of an `else`, or none
abbrev pub else_with : Reader Stmt → Reader (List Stmt)
else_with s ts = if begins kind.Keyword (codes "else") ts then behind kind.Keyword (codes "else") (block_with s) ts else Some ([], ts)

abbrev pub arm_of : ℕ → Expr × List Stmt → Arm
arm_of at p = roll-Arm (record { test = p.0; body = p.1 })

abbrev pub arm_with : Reader Expr → Reader Stmt → Reader Arm
arm_with e s = made arm_of (both e (block_with s))

abbrev pub more_arms : Reader Expr → Reader Stmt → ℕ → Reader (List Arm)
more_arms e s = many (begins kind.Keyword (codes "elsif")) (behind kind.Keyword (codes "elsif") (arm_with e s))

-- one or more arms
abbrev pub arms_with : Reader Expr → Reader Stmt → Reader (List Arm)
arms_with e s ts = arm_with e s ts >>= λ a. with_front (a.0 ∷ []) (more_arms e s (length a.1 + 1) a.1)

abbrev pub if_of : ℕ → List Arm × List Stmt → Stmt
if_of at p = stmt.If at p.0 p.1

abbrev pub if_with : Reader Expr → Reader Stmt → Reader Stmt
if_with e s = made if_of (behind kind.Keyword (codes "if") (both (arms_with e s) (else_with s)))

abbrev pub unless_of : ℕ → Expr × (List Stmt × List Stmt) → Stmt
unless_of at p = stmt.Unless at p.0 p.1.0 p.1.1

abbrev pub unless_with : Reader Expr → Reader Stmt → Reader Stmt
unless_with e s = made unless_of (behind kind.Keyword (codes "unless") (both e (both (block_with s) (else_with s))))

abbrev pub options_with : Reader Expr → Reader (List (Option Expr))
options_with e ts = items (codes ":") (option_with e) (length ts + 1) ts

abbrev pub case_arm_of : ℕ → List (Option Expr) × List Stmt → CaseArm
case_arm_of at p = roll-CaseArm (record { options = p.0; body = p.1 })

abbrev pub case_arm_with : Reader Expr → Reader Stmt → Reader CaseArm
case_arm_with e s = made case_arm_of (both (options_with e) (block_with s))

abbrev pub case_arms_in : Reader Expr → Reader Stmt → Reader (List CaseArm)
case_arms_in e s ts = many unclosed (case_arm_with e s) (length ts + 1) ts

abbrev pub case_of : ℕ → Expr × List CaseArm → Stmt
case_of at p = stmt.Case at p.0 p.1

abbrev pub case_with : Reader Expr → Reader Stmt → Reader Stmt
case_with e s = made case_of (behind kind.Keyword (codes "case") (both e (in_braces (case_arms_in e s))))

-- ---- statements

abbrev pub called_or : Reader Expr → Found Func → Reader Stmt
called_or e None ts = chain_with e ts
called_or e (Some f) ts = call_with e ts

-- what begins with a word
abbrev pub called_with : Reader Expr → Reader Stmt
called_with e ts = called_or e (taken function_by ts) ts

abbrev pub keyed_with : Reader Expr → Reader Stmt → List ℕ → Reader Stmt
keyed_with e s word ts = if bytes_eq word (codes "if") then if_with e s ts else (if bytes_eq word (codes "unless") then unless_with e s ts else (
    if bytes_eq word (codes "case") then case_with e s ts else chain_with e ts))

abbrev pub stmt_by : Reader Expr → Reader Stmt → Kind → List ℕ → Reader Stmt
stmt_by e s kind.Keyword word ts = keyed_with e s word ts
stmt_by e s kind.Var word ts = assign_with e ts
stmt_by e s kind.Word word ts = called_with e ts
stmt_by e s _ word ts = chain_with e ts

abbrev pub stmt_of : Reader Expr → Reader Stmt → Found Lexeme → Reader Stmt
stmt_of e s None ts = None
stmt_of e s (Some t) ts = stmt_by e s t.0.kind t.0.text ts

abbrev pub stmt_with : Reader Expr → Reader Stmt → Reader Stmt
stmt_with e s ts = stmt_of e s (front_of ts) ts

-- with blocks nested less deep than this
abbrev pub stmt_at : Reader Expr → ℕ → Reader Stmt
stmt_at e zero ts = None
stmt_at e (suc depth) ts = stmt_with e (stmt_at e depth) ts

-- ---- the attributes of an item that gives defaults

-- attributes in braces
abbrev pub attributes_with : Reader Expr → Reader (List Attr)
attributes_with e = in_braces (attrs_with e)
