-- Trees that differ at most in their places.
use Rattle.std.specs.Prelude.{◌≡◌, map}
use Rattle.std.specs.Option.{option_map}
use Rattle.pp_syntax.specs.declared.tree.Expr.{Expr}
use Rattle.pp_syntax.specs.declared.tree.Form.{Form, fold-Form, roll-Form}
use Rattle.pp_syntax.specs.declared.tree.Attr.{Attr}
use Rattle.pp_syntax.specs.declared.tree.Body.{Body}
use Rattle.pp_syntax.specs.declared.tree.Search.{Search, Search-F, fold-Search, roll-Search}
use Rattle.pp_syntax.specs.declared.tree.Search.TheOpen as search
use Rattle.pp_syntax.specs.declared.tree.Operand.{Operand}
use Rattle.pp_syntax.specs.declared.tree.Operand.TheVariants as operand
use Rattle.pp_syntax.specs.declared.tree.Stmt.{Stmt, Stmt-F, fold-Stmt, roll-Stmt}
use Rattle.pp_syntax.specs.declared.tree.Stmt.TheOpen as stmt
use Rattle.pp_syntax.specs.declared.tree.Stmt.TheOpen.{Arm-F, CaseArm-F}
use Rattle.pp_syntax.specs.declared.tree.Arm.{Arm, roll-Arm}
use Rattle.pp_syntax.specs.declared.tree.CaseArm.{CaseArm, roll-CaseArm}
use Rattle.pp_syntax.specs.declared.tree.Param.{Param}
use Rattle.pp_syntax.specs.declared.tree.Item.{Item}
use Rattle.pp_syntax.specs.declared.tree.Item.TheVariants as item
use Rattle.pp_syntax.specs.declared.tree.Manifest.{Manifest}

-- each tree with every place set to 0

unfoldable pub unplaced_form : Form → Form
unplaced_form f = fold-Form Form Expr roll-Form (λ x. record { at = 0; form = x.form }) f

abbrev pub unplaced : Expr → Expr
unplaced x = record { at = 0; form = unplaced_form x.form }

abbrev pub unplaced_attr : Attr → Attr
unplaced_attr a = record { at = 0; name = a.name; value = unplaced a.value }

abbrev pub unplaced_body : Body → Body
unplaced_body b = record { title = unplaced b.title; attrs = map unplaced_attr b.attrs }

abbrev pub search_step : Search-F Search → Search-F Search
search_step (search.Or all) = search.Or all
search_step (search.And all) = search.And all
search_step (search.Equal name value) = search.Equal name (unplaced value)
search_step (search.Differ name value) = search.Differ name (unplaced value)

unfoldable pub unplaced_search : Search → Search
unplaced_search s = fold-Search Search (λ x. roll-Search (search_step x)) s

abbrev pub unplaced_operand : Operand → Operand
unplaced_operand (operand.Declare at virtual name bodies) = operand.Declare 0 virtual name (map unplaced_body bodies)
unplaced_operand (operand.Collect at name sought) = operand.Collect 0 name (option_map unplaced_search sought)
unplaced_operand (operand.Named xs) = operand.Named (map unplaced xs)

abbrev pub stmt_step : Stmt-F Stmt Arm CaseArm → Stmt-F Stmt Arm CaseArm
stmt_step (stmt.Chain at sides arrows) = stmt.Chain 0 (map unplaced_operand sides) arrows
stmt_step (stmt.Assign at name value) = stmt.Assign 0 name (unplaced value)
stmt_step (stmt.Call at func args) = stmt.Call 0 func (map unplaced args)
stmt_step (stmt.If at arms other) = stmt.If 0 arms other
stmt_step (stmt.Unless at test body other) = stmt.Unless 0 (unplaced test) body other
stmt_step (stmt.Case at value arms) = stmt.Case 0 (unplaced value) arms

abbrev pub arm_step : Arm-F Stmt Arm CaseArm → Arm
arm_step a = roll-Arm (record { test = unplaced a.test; body = a.body })

abbrev pub case_arm_step : CaseArm-F Stmt Arm CaseArm → CaseArm
case_arm_step a = roll-CaseArm (record { options = map (option_map unplaced) a.options; body = a.body })

unfoldable pub unplaced_stmt : Stmt → Stmt
unplaced_stmt s = fold-Stmt Stmt Arm CaseArm (λ x. roll-Stmt (stmt_step x)) arm_step case_arm_step s

abbrev pub unplaced_param : Param → Param
unplaced_param p = record { kind = p.kind; name = p.name; default = option_map unplaced p.default }

abbrev pub unplaced_item : Item → Item
unplaced_item (item.Class at name params parent body) = item.Class 0 name (map unplaced_param params) parent (map unplaced_stmt body)
unplaced_item (item.Define at name params body) = item.Define 0 name (map unplaced_param params) (map unplaced_stmt body)
unplaced_item (item.Node at names body) = item.Node 0 names (map unplaced_stmt body)
unplaced_item (item.Defaults at name attrs) = item.Defaults 0 name (map unplaced_attr attrs)
unplaced_item (item.Plain s) = item.Plain (unplaced_stmt s)

abbrev pub unplaced_manifest : Manifest → Manifest
unplaced_manifest m = record { items = map unplaced_item m.items }

-- With every place set to 0 the two are one manifest.
abbrev pub SameButPlaces : Manifest → Manifest → Type 0
SameButPlaces m n = unplaced_manifest m ≡ unplaced_manifest n
