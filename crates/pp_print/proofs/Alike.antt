-- Trees that differ at most in their places have the same words.
use Rattle.std.proofs.Common.{◌≡◌, ℕ, List, [], ◌∷◌, ◌++◌, map, refl, sym, ap, subst, ◌∙◌}
use Rattle.std.specs.Prelude.{Option, codes}
use Rattle.std.specs.Prelude as prelude
use Rattle.std.specs.Option.{option_map}
use Rattle.std.specs.List.{flat_map, join_by}
use Rattle.pp_syntax.specs.declared.token.Kind.TheVariants as kind
use Rattle.pp_syntax.specs.declared.tree.Expr.{Expr, Expr-F}
use Rattle.pp_syntax.specs.declared.tree.Form.{Form, Form-F, roll-Form, map-Form, ind-Form}
use Rattle.pp_syntax.specs.declared.tree.Attr.{Attr}
use Rattle.pp_syntax.specs.declared.tree.Body.{Body}
use Rattle.pp_syntax.specs.declared.tree.Search.{Search, Search-F, roll-Search, map-Search, ind-Search}
use Rattle.pp_syntax.specs.declared.tree.Search.TheOpen as plain_search
use Rattle.pp_syntax.specs.declared.tree.Operand.{Operand}
use Rattle.pp_syntax.specs.declared.tree.Operand.TheVariants as operand
use Rattle.pp_syntax.specs.declared.tree.Arrow.{Arrow}
use Rattle.pp_syntax.specs.declared.tree.Stmt.{Stmt, Stmt-F, roll-Stmt, map-Stmt, ind-Stmt}
use Rattle.pp_syntax.specs.declared.tree.Stmt.TheOpen as plain_stmt
use Rattle.pp_syntax.specs.declared.tree.Stmt.TheOpen.{Arm-F, CaseArm-F}
use Rattle.pp_syntax.specs.declared.tree.Arm.{Arm, roll-Arm, out-roll-Arm, map-Arm}
use Rattle.pp_syntax.specs.declared.tree.CaseArm.{CaseArm, roll-CaseArm, out-roll-CaseArm, map-CaseArm}
use Rattle.pp_syntax.specs.declared.tree.Param.{Param}
use Rattle.pp_syntax.specs.declared.tree.Item.{Item}
use Rattle.pp_syntax.specs.declared.tree.Item.TheVariants as item
use Rattle.pp_syntax.specs.declared.tree.Manifest.{Manifest}
use Rattle.pp_syntax.specs.Statements.{word_of}
use Rattle.pp_print.specs.declared.words.Word.{Word}
use Rattle.pp_print.specs.Words.{word, sign, keyword, comma, quoted, named, in_parens, in_braces, in_loose, listed, text_of}
use Rattle.pp_print.specs.Expressions.{Printed, form_by, printed_form, printed, expr_words, at_level, option_by}
use Rattle.pp_print.specs.Statements.{attr_words, body_words, Sought, search_by, sought, compared, virtual_words, maybe_search, references, operand_words, arrow_words, links, chain_words, block_by, else_by, stmt_by, arm_by, case_arm_by, stmt_words, arm_words, case_arm_words, maybe_type, default_words, param_words, params_words, parent_words, block_words, item_words, manifest_words}
use Rattle.pp_print.specs.Places.{unplaced, unplaced_form, unplaced_attr, unplaced_body, search_step, unplaced_search, unplaced_operand, stmt_step, unplaced_stmt, unplaced_param, unplaced_item, unplaced_manifest, SameButPlaces}
use Rattle.pp_print.specs.Canonical.{canonical}
use Rattle.pp_print.proofs.Forms.{form_natural, printed_rolled, join_mapped, flat_mapped}
use Rattle.pp_print.proofs.Blocks.{search_natural, search_rolled, stmt_natural, stmt_rolled}
use Rattle.pp_print.proofs.Unplaced.{rolled}
use Rattle.pp_print.proofs.Searches as searches
use Rattle.pp_print.proofs.StatementLaws as statements
use Rattle.pp_print.proofs.StatementLaws.{unplaced_arm, unplaced_case_arm}

-- ---- lists

-- a list with a separator has the same words where each item has
join_alike : {X : Type 0} (f : X → List Word) (sep : List Word) (u : X → X) → ((x : X) → f (u x) ≡ f x) → (xs : List X) → join_by f sep (map u xs) ≡ join_by f sep xs
join_alike f sep u same xs = join_mapped f sep u xs ∙ (λ i. join_by (λ x. same x i) sep xs)

-- so do items one behind the other
flat_alike : {X : Type 0} (f : X → List Word) (u : X → X) → ((x : X) → f (u x) ≡ f x) → (xs : List X) → flat_map f (map u xs) ≡ flat_map f xs
flat_alike f u same xs = flat_mapped f u xs ∙ (λ i. flat_map (λ x. same x i) xs)

-- ---- expressions

-- without places the form has the same words
abbrev FormAlike : Form → Type 0
FormAlike f = printed_form (unplaced_form f) ≡ printed_form f

-- without places the expression has the same words
abbrev ExprAlike : Expr → Type 0
ExprAlike x = printed (unplaced x) ≡ printed x

-- from the expressions in a form to the form
form_step : (x : Form-F Form Expr) (y : Form-F ((f : Form) × FormAlike f) ((e : Expr) × ExprAlike e)) → map-Form ((f : Form) × FormAlike f) ((e : Expr) × ExprAlike e) Form Expr (λ f. f.0) (λ e. e.0) y ≡ x → FormAlike (roll-Form x)
form_step x y is =
    let known : form_by (λ (e : (e : Expr) × ExprAlike e). printed (unplaced e.0)) y ≡ form_by (λ (e : (e : Expr) × ExprAlike e). printed e.0) y = λ i. form_by (λ e. e.1 i) y in
    let inner : form_by (λ e. printed (unplaced e)) x ≡ form_by printed x =
    subst (λ (z : Form-F Form Expr). form_by (λ e. printed (unplaced e)) z ≡ form_by printed z) is
    (form_natural (λ e. printed (unplaced e)) (λ (f : (f : Form) × FormAlike f). f.0) (λ (e : (e : Expr) × ExprAlike e). e.0) y ∙ known ∙ sym (form_natural printed (λ (f : (f : Form) × FormAlike f). f.0) (λ (e : (e : Expr) × ExprAlike e). e.0) y)) in
    ap printed_form (rolled x) ∙ printed_rolled (map-Form Form Expr Form Expr unplaced_form unplaced x) ∙ form_natural printed unplaced_form unplaced x ∙ inner ∙ sym (printed_rolled x)

-- a form without places has the same words
form_alike : (f : Form) → FormAlike f
form_alike = ind-Form FormAlike ExprAlike form_step (λ x y is. subst (λ (z : Expr-F Form Expr). FormAlike z.form) is y.form.1)

-- an expression without places is printed alike
expr_alike : (x : Expr) → ExprAlike x
expr_alike x = form_alike x.form

-- and has the same words
words_alike : (x : Expr) → expr_words (unplaced x) ≡ expr_words x
words_alike x = ap (λ (p : Printed). p.words) (expr_alike x)

-- so has an option
option_alike : (o : Option Expr) → option_by expr_words (option_map unplaced o) ≡ option_by expr_words o
option_alike prelude.None = refl
option_alike (prelude.Some x) = words_alike x

-- ---- searches

-- without places the search has the same words
abbrev SearchAlike : Search → Type 0
SearchAlike s = sought (unplaced_search s) ≡ sought s

-- a comparison without places has the same words
compared_alike : (name mark : List ℕ) (value : Expr) → compared name mark (unplaced value) ≡ compared name mark value
compared_alike name mark value = ap (λ (p : Printed). named name ++ (sign mark ++ at_level 8 p)) (expr_alike value)

-- one step of a search without places has the same words
search_stepped : (d : Search-F Search) → search_by sought (search_step d) ≡ search_by sought d
search_stepped (plain_search.Or all) = refl
search_stepped (plain_search.And all) = refl
search_stepped (plain_search.Equal name value) = ap (λ (w : List Word). record { words = w; level = 2 }) (compared_alike name (codes "==") value)
search_stepped (plain_search.Differ name value) = ap (λ (w : List Word). record { words = w; level = 2 }) (compared_alike name (codes "!=") value)

-- a search without places has the same words where the searches in it have
search_step_alike : (x : Search-F Search) (y : Search-F ((s : Search) × SearchAlike s)) → map-Search ((s : Search) × SearchAlike s) Search (λ s. s.0) y ≡ x → SearchAlike (roll-Search x)
search_step_alike x y is =
    let known : search_by (λ (s : (s : Search) × SearchAlike s). sought (unplaced_search s.0)) y ≡ search_by (λ (s : (s : Search) × SearchAlike s). sought s.0) y = λ i. search_by (λ s. s.1 i) y in
    let inner : search_by (λ s. sought (unplaced_search s)) x ≡ search_by sought x =
    subst (λ (z : Search-F Search). search_by (λ s. sought (unplaced_search s)) z ≡ search_by sought z) is
    (search_natural (λ s. sought (unplaced_search s)) (λ (s : (s : Search) × SearchAlike s). s.0) y ∙ known ∙ sym (search_natural sought (λ (s : (s : Search) × SearchAlike s). s.0) y)) in
    let d = map-Search Search Search unplaced_search x in
    ap sought (searches.rolled x) ∙ search_rolled (search_step d) ∙ search_stepped d ∙ search_natural sought unplaced_search x ∙ inner ∙ sym (search_rolled x)

-- a search without places has the same words
search_alike : (s : Search) → SearchAlike s
search_alike = ind-Search SearchAlike search_step_alike

-- so has a search, or none
maybe_search_alike : (o : Option Search) → maybe_search (option_map unplaced_search o) ≡ maybe_search o
maybe_search_alike prelude.None = refl
maybe_search_alike (prelude.Some s) = ap (λ (p : Sought). p.words) (search_alike s)

-- ---- resources, collectors and references

-- an attribute without places has the same words
attr_alike : (a : Attr) → attr_words (unplaced_attr a) ≡ attr_words a
attr_alike a = ap (λ (w : List Word). named a.name ++ (sign (codes "=>") ++ w)) (words_alike a.value)

-- so has a body
body_alike : (b : Body) → body_words (unplaced_body b) ≡ body_words b
body_alike b = ap (λ (w : List Word). w ++ (sign (codes ":") ++ listed attr_words (map unplaced_attr b.attrs))) (words_alike b.title)
    ∙ ap (λ (w : List Word). expr_words b.title ++ (sign (codes ":") ++ w)) (join_alike attr_words comma unplaced_attr attr_alike b.attrs)

-- so have references
references_alike : (xs : List Expr) → references (map unplaced xs) ≡ references xs
references_alike [] = refl
references_alike (x ∷ []) = words_alike x
references_alike (x ∷ y ∷ more) = ap (λ (w : List Word). in_loose w) (join_alike expr_words comma unplaced words_alike (x ∷ y ∷ more))

-- so has an operand of a chain
operand_alike : (y : Operand) → operand_words (unplaced_operand y) ≡ operand_words y
operand_alike (operand.Declare at virtual name bodies) = ap (λ (w : List Word). virtual_words virtual ++ (named name ++ in_braces w)) (join_alike body_words (sign (codes ";")) unplaced_body body_alike bodies)
operand_alike (operand.Collect at name s) = ap (λ (w : List Word). word kind.Ref name ++ (sign (codes "<|") ++ (w ++ sign (codes "|>")))) (maybe_search_alike s)
operand_alike (operand.Named xs) = references_alike xs

-- so have arrows with operands
links_alike : (arrows : List Arrow) (ys : List Operand) → links arrows (map unplaced_operand ys) ≡ links arrows ys
links_alike [] ys = refl
links_alike (a ∷ arrows) [] = refl
links_alike (a ∷ arrows) (y ∷ ys) = ap (λ (w : List Word). arrow_words a ++ (w ++ links arrows (map unplaced_operand ys))) (operand_alike y) ∙ ap (λ (w : List Word). arrow_words a ++ (operand_words y ++ w)) (links_alike arrows ys)

-- so has a chain
chain_alike : (ys : List Operand) (arrows : List Arrow) → chain_words (map unplaced_operand ys) arrows ≡ chain_words ys arrows
chain_alike [] arrows = refl
chain_alike (y ∷ ys) arrows = ap (λ (w : List Word). w ++ links arrows (map unplaced_operand ys)) (operand_alike y) ∙ ap (λ (w : List Word). operand_words y ++ w) (links_alike arrows ys)

-- ---- statements

-- without places the statement has the same words
abbrev StmtAlike : Stmt → Type 0
StmtAlike s = stmt_words (unplaced_stmt s) ≡ stmt_words s

-- without places the arm has the same words
abbrev ArmAlike : Arm → Type 0
ArmAlike a = arm_words (unplaced_arm a) ≡ arm_words a

-- without places the arm of a `case` has the same words
abbrev CaseArmAlike : CaseArm → Type 0
CaseArmAlike a = case_arm_words (unplaced_case_arm a) ≡ case_arm_words a

-- a statement that has the same words without places
abbrev AlikeStmt : Type 0
AlikeStmt = (s : Stmt) × StmtAlike s

-- such an arm
abbrev AlikeArm : Type 0
AlikeArm = (a : Arm) × ArmAlike a

-- such an arm of a `case`
abbrev AlikeCaseArm : Type 0
AlikeCaseArm = (a : CaseArm) × CaseArmAlike a

-- one step of a statement without places has the same words
stmt_stepped : (s : Stmt → List Word) (a : Arm → List Word) (c : CaseArm → List Word) (d : Stmt-F Stmt Arm CaseArm) → stmt_by s a c (stmt_step d) ≡ stmt_by s a c d
stmt_stepped s a c (plain_stmt.Chain at sides arrows) = chain_alike sides arrows
stmt_stepped s a c (plain_stmt.Assign at name value) = ap (λ (w : List Word). word kind.Var (36 ∷ name) ++ (sign (codes "=") ++ w)) (words_alike value)
stmt_stepped s a c (plain_stmt.Call at f args) = ap (λ (w : List Word). word kind.Word (word_of f) ++ in_parens w) (join_alike expr_words comma unplaced words_alike args)
stmt_stepped s a c (plain_stmt.If at arms other) = refl
stmt_stepped s a c (plain_stmt.Unless at test body other) = ap (λ (w : List Word). keyword (codes "unless") ++ (w ++ (block_by s body ++ else_by s other))) (words_alike test)
stmt_stepped s a c (plain_stmt.Case at value arms) = ap (λ (w : List Word). keyword (codes "case") ++ (w ++ in_braces (flat_map c arms))) (words_alike value)

-- a statement without places has the same words where what stands in it has
stmt_step_alike : (x : Stmt-F Stmt Arm CaseArm) (y : Stmt-F AlikeStmt AlikeArm AlikeCaseArm) → map-Stmt AlikeStmt AlikeArm AlikeCaseArm Stmt Arm CaseArm (λ s. s.0) (λ a. a.0) (λ c. c.0) y ≡ x → StmtAlike (roll-Stmt x)
stmt_step_alike x y is =
    let known : stmt_by (λ (s : AlikeStmt). stmt_words (unplaced_stmt s.0)) (λ (a : AlikeArm). arm_words (unplaced_arm a.0)) (λ (c : AlikeCaseArm). case_arm_words (unplaced_case_arm c.0)) y
    ≡ stmt_by (λ (s : AlikeStmt). stmt_words s.0) (λ (a : AlikeArm). arm_words a.0) (λ (c : AlikeCaseArm). case_arm_words c.0) y = λ i. stmt_by (λ s. s.1 i) (λ a. a.1 i) (λ c. c.1 i) y in
    let before = stmt_natural (λ s. stmt_words (unplaced_stmt s)) (λ a. arm_words (unplaced_arm a)) (λ c. case_arm_words (unplaced_case_arm c)) (λ (s : AlikeStmt). s.0) (λ (a : AlikeArm). a.0) (λ (c : AlikeCaseArm). c.0) y in
    let behind = stmt_natural stmt_words arm_words case_arm_words (λ (s : AlikeStmt). s.0) (λ (a : AlikeArm). a.0) (λ (c : AlikeCaseArm). c.0) y in
    let inner : stmt_by (λ s. stmt_words (unplaced_stmt s)) (λ a. arm_words (unplaced_arm a)) (λ c. case_arm_words (unplaced_case_arm c)) x ≡ stmt_by stmt_words arm_words case_arm_words x =
    subst (λ (z : Stmt-F Stmt Arm CaseArm). stmt_by (λ s. stmt_words (unplaced_stmt s)) (λ a. arm_words (unplaced_arm a)) (λ c. case_arm_words (unplaced_case_arm c)) z ≡ stmt_by stmt_words arm_words case_arm_words z) is (before ∙ known ∙ sym behind) in
    let d = map-Stmt Stmt Arm CaseArm Stmt Arm CaseArm unplaced_stmt unplaced_arm unplaced_case_arm x in
    ap stmt_words (statements.rolled x) ∙ stmt_rolled (stmt_step d) ∙ stmt_stepped stmt_words arm_words case_arm_words d ∙ stmt_natural stmt_words arm_words case_arm_words unplaced_stmt unplaced_arm unplaced_case_arm x ∙ inner ∙ sym (stmt_rolled x)

-- statements one behind the other that each have the same words have the same in all
rows_alike : (ys : List AlikeStmt) → flat_map stmt_words (map unplaced_stmt (map (λ (s : AlikeStmt). s.0) ys)) ≡ flat_map stmt_words (map (λ (s : AlikeStmt). s.0) ys)
rows_alike [] = refl
rows_alike (e ∷ ys) = ap (λ (w : List Word). w ++ flat_map stmt_words (map unplaced_stmt (map (λ (s : AlikeStmt). s.0) ys))) e.1 ∙ ap (λ (w : List Word). stmt_words e.0 ++ w) (rows_alike ys)

-- a test and its block
abbrev ArmPart : Type 0
ArmPart = Arm-F Stmt Arm CaseArm

-- the same without places
abbrev unplaced_part : ArmPart → ArmPart
unplaced_part a = record { test = unplaced a.test; body = map unplaced_stmt a.body }

-- an arm without places has the same words where its statements have
arm_step_alike : (x : ArmPart) (y : Arm-F AlikeStmt AlikeArm AlikeCaseArm) → map-Arm AlikeStmt AlikeArm AlikeCaseArm Stmt Arm CaseArm (λ s. s.0) (λ a. a.0) (λ c. c.0) y ≡ x → ArmAlike (roll-Arm x)
unfolding unplaced_arm
arm_step_alike x y is =
    let rows : flat_map stmt_words (map unplaced_stmt x.body) ≡ flat_map stmt_words x.body = subst (λ (z : ArmPart). flat_map stmt_words (map unplaced_stmt z.body) ≡ flat_map stmt_words z.body) is (rows_alike y.body) in
    ap (λ (z : ArmPart). arm_words (roll-Arm (unplaced_part z))) (out-roll-Arm x) ∙ ap (λ (z : ArmPart). arm_by stmt_words z) (out-roll-Arm (unplaced_part x))
    ∙ ap (λ (w : List Word). w ++ block_by stmt_words (map unplaced_stmt x.body)) (words_alike x.test) ∙ ap (λ (w : List Word). expr_words x.test ++ in_braces w) rows ∙ ap (λ (z : ArmPart). arm_by stmt_words z) (sym (out-roll-Arm x))

-- options and their block
abbrev CaseArmPart : Type 0
CaseArmPart = CaseArm-F Stmt Arm CaseArm

-- the same without places
abbrev unplaced_case_part : CaseArmPart → CaseArmPart
unplaced_case_part a = record { options = map (option_map unplaced) a.options; body = map unplaced_stmt a.body }

-- an arm of a `case` without places has the same words where its statements have
case_arm_step_alike : (x : CaseArmPart) (y : CaseArm-F AlikeStmt AlikeArm AlikeCaseArm) → map-CaseArm AlikeStmt AlikeArm AlikeCaseArm Stmt Arm CaseArm (λ s. s.0) (λ a. a.0) (λ c. c.0) y ≡ x → CaseArmAlike (roll-CaseArm x)
unfolding unplaced_case_arm
case_arm_step_alike x y is =
    let rows : flat_map stmt_words (map unplaced_stmt x.body) ≡ flat_map stmt_words x.body = subst (λ (z : CaseArmPart). flat_map stmt_words (map unplaced_stmt z.body) ≡ flat_map stmt_words z.body) is (rows_alike y.body) in
    ap (λ (z : CaseArmPart). case_arm_words (roll-CaseArm (unplaced_case_part z))) (out-roll-CaseArm x) ∙ ap (λ (z : CaseArmPart). case_arm_by stmt_words z) (out-roll-CaseArm (unplaced_case_part x))
    ∙ ap (λ (w : List Word). w ++ (sign (codes ":") ++ block_by stmt_words (map unplaced_stmt x.body))) (join_alike (option_by expr_words) comma (option_map unplaced) option_alike x.options)
    ∙ ap (λ (w : List Word). listed (option_by expr_words) x.options ++ (sign (codes ":") ++ in_braces w)) rows ∙ ap (λ (z : CaseArmPart). case_arm_by stmt_words z) (sym (out-roll-CaseArm x))

-- a statement without places has the same words
stmt_alike : (s : Stmt) → StmtAlike s
stmt_alike = ind-Stmt StmtAlike ArmAlike CaseArmAlike stmt_step_alike arm_step_alike case_arm_step_alike

-- ---- items

-- the default of a parameter has the same words without places
default_alike : (o : Option Expr) → default_words (option_map unplaced o) ≡ default_words o
default_alike prelude.None = refl
default_alike (prelude.Some x) = ap (λ (w : List Word). sign (codes "=") ++ w) (words_alike x)

-- so has a parameter
param_alike : (p : Param) → param_words (unplaced_param p) ≡ param_words p
param_alike p = ap (λ (w : List Word). maybe_type p.kind ++ (word kind.Var (36 ∷ p.name) ++ w)) (default_alike p.default)

-- so have parameters
params_alike : (ps : List Param) → params_words (map unplaced_param ps) ≡ params_words ps
params_alike [] = refl
params_alike (p ∷ ps) = ap (λ (w : List Word). in_parens w) (join_alike param_words comma unplaced_param param_alike (p ∷ ps))

-- so has a block
block_alike : (body : List Stmt) → block_words (map unplaced_stmt body) ≡ block_words body
block_alike body = ap (λ (w : List Word). in_braces w) (flat_alike stmt_words unplaced_stmt stmt_alike body)

-- so has an item
item_alike : (x : Item) → item_words (unplaced_item x) ≡ item_words x
item_alike (item.Class at name params parent body) = ap (λ (w : List Word). keyword (codes "class") ++ (word kind.Word name ++ (w ++ (parent_words parent ++ block_words (map unplaced_stmt body))))) (params_alike params)
    ∙ ap (λ (w : List Word). keyword (codes "class") ++ (word kind.Word name ++ (params_words params ++ (parent_words parent ++ w)))) (block_alike body)
item_alike (item.Define at name params body) = ap (λ (w : List Word). keyword (codes "define") ++ (word kind.Word name ++ (w ++ block_words (map unplaced_stmt body)))) (params_alike params)
    ∙ ap (λ (w : List Word). keyword (codes "define") ++ (word kind.Word name ++ (params_words params ++ w))) (block_alike body)
item_alike (item.Node at names body) = ap (λ (w : List Word). keyword (codes "node") ++ (listed (option_by quoted) names ++ w)) (block_alike body)
item_alike (item.Defaults at name attrs) = ap (λ (w : List Word). word kind.Ref name ++ in_braces w) (join_alike attr_words comma unplaced_attr attr_alike attrs)
item_alike (item.Plain s) = stmt_alike s

-- so has a manifest
manifest_alike : (m : Manifest) → manifest_words (unplaced_manifest m) ≡ manifest_words m
manifest_alike m = flat_alike item_words unplaced_item item_alike m.items

-- manifests that differ at most in their places have one canonical text
pub same_canonical : (m n : Manifest) → SameButPlaces m n → canonical m ≡ canonical n
same_canonical m n same = ap text_of (sym (manifest_alike m) ∙ ap manifest_words same ∙ manifest_alike n)
