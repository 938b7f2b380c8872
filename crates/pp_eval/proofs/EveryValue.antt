-- What is so of every value that is evaluated, where each form keeps it.
use Rattle.std.proofs.Common.{◌≡◌, ℕ, ℤ, Bool, true, false, cond, List, [], ◌∷◌, map, Result, Ok, Err, Option, Some, None, refl, sym, subst}
use Rattle.std.specs.List.{AllByRecursion}
use Rattle.rh_base.specs.declared.fault.Refusal.{Refusal}
use Rattle.pp_syntax.specs.declared.tree.Expr.{Expr, roll-Expr}
use Rattle.pp_syntax.specs.declared.tree.Form.{Form, Form-F, map-Form, roll-Form, ind-Form}
use Rattle.pp_syntax.specs.declared.tree.Form.TheOpen as plain
use Rattle.pp_syntax.specs.declared.tree.Form.TheShapes.{former-Form-Select-1-at-3}
use Rattle.pp_syntax.specs.declared.tree.Op.{Op}
use Rattle.pp_value.specs.declared.value.Value.{Value}
use Rattle.pp_value.specs.declared.value.Value.TheVariants as v
use Rattle.pp_eval.specs.Scoping.{Scoped, find_in}
use Rattle.pp_eval.proofs.Forms.{rolled}
use Rattle.pp_eval.specs.declared.blame.Blame.TheVariants as blame
use Rattle.pp_eval.specs.Evaluating.{Evaluation, Evaluated, ◌>>=◌, limited}
use Rattle.pp_eval.specs.Evaluation.{bound_to, list_at, map_at, refer_at, is_equal, joined_to, chain_at, prefix_at, index_at, first_equal, default_in, chosen, select_at, form_at, value_in, value_of, evaluated, pair_by, operand_by}

-- so of what is given, if anything is
abbrev pub Each : {A : Type 0} → (A → Type 0) → Result A Refusal → Type 0
Each P (Ok x) = P x
Each P (Err r) = Unit {0}

-- ---- steps

-- a last step that keeps it makes a whole that does
pub step_each : {A B : Type 0} (Q : B → Type 0) (r : Result A Refusal) (f : A → Result B Refusal) → ((x : A) → Each Q (f x)) → Each Q (r >>= f)
step_each Q (Ok x) f h = h x
step_each Q (Err e) f h = tt

-- a step behind what is so gives what is so
pub then_each : {A B : Type 0} (P : A → Type 0) (Q : B → Type 0) (r : Result A Refusal) (f : A → Result B Refusal) → Each P r → ((x : A) → P x → Each Q (f x)) → Each Q (r >>= f)
then_each P Q (Ok x) f h k = k x h
then_each P Q (Err e) f h k = tt

-- so does a choice of two that do
pub if_each : (P : Value → Type 0) (b : Bool) (x y : Evaluation) → Each P x → Each P y → Each P (cond b x y)
if_each P true x y h k = h
if_each P false x y h k = k

-- ---- selectors

-- so of what stands behind each choice
abbrev AreEach : (Value → Type 0) → List (Option Evaluated × Evaluated) → Type 0
AreEach P choices = AllByRecursion (λ c. Each P c.1.gives) choices

-- so of what is there, if anything is
abbrev IfEach : (Value → Type 0) → Option Evaluated → Type 0
IfEach P None = Unit {0}
IfEach P (Some e) = Each P e.gives

-- what is found by a test or further on is so
tested : (P : Value → Type 0) (r : Result Bool Refusal) (e : Evaluated) (rest : Result (Option Evaluated) Refusal) → Each P e.gives → Each (IfEach P) rest → Each (IfEach P) (r >>= λ same. cond same (Ok (Some e)) rest)
tested P (Ok true) e rest h k = h
tested P (Ok false) e rest h k = k
tested P (Err r) e rest h k = tt

-- what stands behind the first equal option is so
first_each : (P : Value → Type 0) (at : ℕ) (x : Value) (choices : List (Option Evaluated × Evaluated)) → AreEach P choices → Each (IfEach P) (first_equal at x choices)
first_each P at x [] h = tt
first_each P at x (c ∷ choices) h = tested P (is_equal (blame.Selector at) x c.0) c.1 (first_equal at x choices) h.0 (first_each P at x choices h.1)

-- so is what stands behind `default`
default_each : (P : Value → Type 0) (choices : List (Option Evaluated × Evaluated)) → AreEach P choices → IfEach P (default_in choices)
default_each P [] h = tt
default_each P ((None, x) ∷ choices) h = h.0
default_each P ((Some o, x) ∷ choices) h = default_each P choices h.1

-- so is that of the two which is chosen
chosen_each : (P : Value → Type 0) (at : ℕ) (found default : Option Evaluated) → IfEach P found → IfEach P default → Each P (chosen at found default)
chosen_each P at (Some e) default h k = h
chosen_each P at None (Some e) h k = k
chosen_each P at None None h k = tt

-- so is what a selector gives
select_each : (P : Value → Type 0) (at : ℕ) (control : Evaluated) (choices : List (Option Evaluated × Evaluated)) → AreEach P choices → Each P (select_at at control choices)
select_each P at control choices h =
    step_each P control.gives _ (λ x. then_each (IfEach P) P (first_equal at x choices) _ (first_each P at x choices h) (λ found k. chosen_each P at found (default_in choices) k (default_each P choices h)))

-- ---- variables

-- what a variable gives is so, if what is bound is
var_each : (P : Value → Type 0) (at : ℕ) (name : List ℕ) (o : Option Value) → ((x : Value) → o ≡ Some x → P x) → Each P (bound_to at name o)
var_each P at name (Some x) h = h x refl
var_each P at name None h = tt

-- ---- every expression, where each form keeps it

-- Each form keeps it, but for variables and selectors, which make no value.
pub record FormsKeep (P : Value → Type 0) : Type 0 where
  pub int : (at : ℕ) (n : ℤ) → Each P (limited at (v.Int n))
  pub str : (at : ℕ) (text : List ℕ) → Each P (limited at (v.Str text))
  pub bool : (at : ℕ) (b : Bool) → Each P (limited at (v.Bool b))
  pub undef : (at : ℕ) → Each P (limited at v.Undef)
  pub list : (at : ℕ) (members : List Evaluated) → AllByRecursion (λ m. Each P m.gives) members → Each P (list_at at members)
  pub pairs : (at : ℕ) (members : List (Evaluated × Evaluated)) → AllByRecursion (λ m. Each P m.1.gives) members → Each P (map_at at members)
  pub refer : (at : ℕ) (kind : List ℕ) (titles : List Evaluated) → Each P (refer_at at kind titles)
  pub join : (at : ℕ) (members : List Evaluated) → Each P (joined_to at [] members)
  pub chain : (at : ℕ) (first : Evaluated) (more : List (Op × Evaluated)) → Each P first.gives → AllByRecursion (λ o. Each P o.1.gives) more → Each P (chain_at at first more)
  pub prefix : (at : ℕ) (ops : List Op) (r : Evaluation) → Each P r → Each P (prefix_at at ops r)
  pub index : (at : ℕ) (base key : Evaluated) → Each P base.gives → Each P (index_at at base key)

module _ (P : Value → Type 0) (keep : FormsKeep P) (s : Scoped) (bound : (name : List ℕ) (x : Value) → find_in s name ≡ Some x → P x) where
  -- so of what the form gives at each place
  abbrev FormEach : Form → Type 0
  FormEach f = (at : ℕ) → Each P (value_in s f at)

  -- so of what the expression gives
  abbrev ExprEach : Expr → Type 0
  ExprEach e = Each P (value_of s e)

  -- a form of which it is known
  abbrev KnownForm : Type 0
  KnownForm = (f : Form) × FormEach f

  -- an expression of which it is known
  abbrev KnownExpr : Type 0
  KnownExpr = (e : Expr) × ExprEach e

  -- such an expression, by itself
  abbrev inner : KnownExpr → Expr
  inner e = e.0

  -- each member that is evaluated gives what is so
  members_each : (members : List KnownExpr) → AllByRecursion (λ m. Each P m.gives) (map (evaluated s) (map inner members))
  members_each [] = tt
  members_each (m ∷ members) = (m.1, members_each members)

  -- so does the value of each pair
  pairs_each : (members : List (KnownExpr × KnownExpr)) → AllByRecursion (λ m. Each P m.1.gives) (map (pair_by (evaluated s)) (map (pair_by inner) members))
  pairs_each [] = tt
  pairs_each (m ∷ members) = (m.1.1, pairs_each members)

  -- so does each operand
  operands_each : (more : List (Op × KnownExpr)) → AllByRecursion (λ o. Each P o.1.gives) (map (operand_by (evaluated s)) (map (operand_by inner) more))
  operands_each [] = tt
  operands_each (o ∷ more) = (o.1.1, operands_each more)

  -- so does what stands behind each choice
  choices_each : (choices : List (Option KnownExpr × KnownExpr))
      → AreEach P (map (former-Form-Select-1-at-3.map Expr Evaluated (evaluated s)) (map (former-Form-Select-1-at-3.map KnownExpr Expr (λ e. e.0)) choices))
  choices_each [] = tt
  choices_each ((None, x) ∷ choices) = (x.1, choices_each choices)
  choices_each ((Some o, x) ∷ choices) = (x.1, choices_each choices)

  -- so does a form whose expressions are known
  layer_each : (y : Form-F KnownForm KnownExpr) (at : ℕ)
      → Each P (form_at s (map-Form Form Expr (ℕ → Evaluation) Evaluated (value_in s) (evaluated s) (map-Form KnownForm KnownExpr Form Expr (λ f. f.0) (λ e. e.0) y)) at)
  layer_each (plain.Int n) at = keep.int at n
  layer_each (plain.Str text) at = keep.str at text
  layer_each (plain.Var name) at = var_each P at name (find_in s name) (bound name)
  layer_each (plain.Bool b) at = keep.bool at b
  layer_each plain.Undef at = keep.undef at
  layer_each (plain.List members) at = keep.list at (map (evaluated s) (map inner members)) (members_each members)
  layer_each (plain.Map members) at = keep.pairs at (map (pair_by (evaluated s)) (map (pair_by inner) members)) (pairs_each members)
  layer_each (plain.Refer kind titles) at = keep.refer at kind (map (evaluated s) (map inner titles))
  layer_each (plain.Join members) at = keep.join at (map (evaluated s) (map inner members))
  layer_each (plain.Chain first more) at = keep.chain at (evaluated s first.0) (map (operand_by (evaluated s)) (map (operand_by inner) more)) first.1 (operands_each more)
  layer_each (plain.Prefix ops x) at = keep.prefix at ops (value_of s x.0) x.1
  layer_each (plain.Index base key) at = keep.index at (evaluated s base.0) (evaluated s key.0) base.1
  layer_each (plain.Select control choices) at = select_each P at (evaluated s control.0) (map (former-Form-Select-1-at-3.map Expr Evaluated (evaluated s)) (map (former-Form-Select-1-at-3.map KnownExpr Expr inner) choices)) (choices_each choices)

  -- so does each form
  form_each : (f : Form) → FormEach f
  form_each = ind-Form FormEach ExprEach
      (λ x y is. λ at. subst (λ (z : Form-F Form Expr). Each P (value_in s (roll-Form z) at)) is (subst (Each P) (sym (rolled s (map-Form KnownForm KnownExpr Form Expr (λ f. f.0) (λ e. e.0) y) at)) (layer_each y at)))
      (λ x y is. subst (λ z. ExprEach (roll-Expr z)) is (y.form.1 y.at))

  -- what each expression gives is so, if what is bound is
  pub so_of_each : (e : Expr) (x : Value) → value_of s e ≡ Ok x → P x
  so_of_each e x h = subst (Each P) h (form_each e.form e.at)
