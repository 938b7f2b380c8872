-- The value of each form, by those of the expressions in it.
use Rattle.std.proofs.Common.{◌≡◌, ℕ, List, [], map, refl, sym, ap, ◌∙◌}
use Rattle.std.specs.Prelude.{ℤ, Bool, Option}
use Rattle.std.specs.Prelude as prelude
use Rattle.pp_syntax.specs.declared.tree.Expr.{Expr, fold-Expr, fold_out-Expr}
use Rattle.pp_syntax.specs.declared.tree.Form.{Form, Form-F, fold-roll-Form, roll-Form, map-Form}
use Rattle.pp_syntax.specs.declared.tree.Form.TheOpen as plain
use Rattle.pp_syntax.specs.declared.tree.Form.TheVariants as form
use Rattle.pp_syntax.specs.declared.tree.Form.TheVariants.{rolls-Int, rolls-Str, rolls-Var, rolls-Bool, rolls-Undef, rolls-List, rolls-Map, rolls-Refer, rolls-Join, rolls-Chain, rolls-Prefix, rolls-Index, rolls-Select}
use Rattle.pp_syntax.specs.declared.tree.Form.TheShapes.{former-Form-Select-1-at-3}
use Rattle.pp_syntax.specs.declared.tree.Op.{Op}
use Rattle.pp_value.specs.declared.value.Value.TheVariants as v
use Rattle.pp_eval.specs.Scoping.{Scoped, find_in}
use Rattle.pp_eval.specs.Evaluating.{Evaluation, Evaluated, ◌>>=◌, limited}
use Rattle.pp_eval.specs.Evaluation.{form_at, value_in, value_of, evaluated, pair_by, operand_by, choice_by, bound_to, list_at, map_at, refer_at, joined_to, chain_from, chain_at, prefix_at, index_at, selected, select_at}

-- an expression as it is evaluated, from the bottom up
folded : Scoped → Expr → Evaluated
folded s x = fold-Expr (ℕ → Evaluation) Evaluated (form_at s) (λ x. record { at = x.at; gives = x.form x.at }) x

-- that is the expression with its place and evaluation
folded_is : (s : Scoped) (x : Expr) → folded s x ≡ evaluated s x
unfolding folded value_in
folded_is s x = fold_out-Expr (ℕ → Evaluation) Evaluated (form_at s) (λ x. record { at = x.at; gives = x.form x.at }) x

-- a form gives what its first step gives
pub rolled : (s : Scoped) (d : Form-F Form Expr) (at : ℕ) → value_in s (roll-Form d) at ≡ form_at s (map-Form Form Expr (ℕ → Evaluation) Evaluated (value_in s) (evaluated s) d) at
unfolding folded value_in
rolled s d at = ap (λ (f : ℕ → Evaluation). f at) (fold-roll-Form (ℕ → Evaluation) Evaluated (form_at s) (λ x. record { at = x.at; gives = x.form x.at }) d)
    ∙ ap (λ (h : Expr → Evaluated). form_at s (map-Form Form Expr (ℕ → Evaluation) Evaluated (value_in s) h d) at) (λ i. λ x. folded_is s x i)

-- a form, and what it is made of
of : (s : Scoped) (f : Form) (d : Form-F Form Expr) (at : ℕ) → roll-Form d ≡ f → value_in s f at ≡ form_at s (map-Form Form Expr (ℕ → Evaluation) Evaluated (value_in s) (evaluated s) d) at
of s f d at is = sym (ap (λ (g : Form). value_in s g at) is) ∙ rolled s d at

-- a choice is evaluated part by part
choice_mapped : (h : Expr → Evaluated) (c : Option Expr × Expr) → former-Form-Select-1-at-3.map Expr Evaluated h c ≡ choice_by h c
choice_mapped h (prelude.None, x) = refl
choice_mapped h (prelude.Some y, x) = refl

-- what a number gives
pub value_int : (s : Scoped) (n : ℤ) (at : ℕ) → value_in s (form.Int n) at ≡ limited at (v.Int n)
value_int s n at = of s (form.Int n) (plain.Int n) at (rolls-Int n)

-- what a text gives
pub value_str : (s : Scoped) (text : List ℕ) (at : ℕ) → value_in s (form.Str text) at ≡ limited at (v.Str text)
value_str s text at = of s (form.Str text) (plain.Str text) at (rolls-Str text)

-- what a variable gives
pub value_var : (s : Scoped) (name : List ℕ) (at : ℕ) → value_in s (form.Var name) at ≡ bound_to at name (find_in s name)
value_var s name at = of s (form.Var name) (plain.Var name) at (rolls-Var name)

-- what `true` and `false` give
pub value_bool : (s : Scoped) (b : Bool) (at : ℕ) → value_in s (form.Bool b) at ≡ limited at (v.Bool b)
value_bool s b at = of s (form.Bool b) (plain.Bool b) at (rolls-Bool b)

-- what `undef` gives
pub value_undef : (s : Scoped) (at : ℕ) → value_in s form.Undef at ≡ limited at v.Undef
value_undef s at = of s form.Undef plain.Undef at rolls-Undef

-- what a list gives
pub value_list : (s : Scoped) (members : List Expr) (at : ℕ) → value_in s (form.List members) at ≡ list_at at (map (evaluated s) members)
value_list s members at = of s (form.List members) (plain.List members) at (rolls-List members)

-- what a map gives
pub value_map : (s : Scoped) (members : List (Expr × Expr)) (at : ℕ) → value_in s (form.Map members) at ≡ map_at at (map (pair_by (evaluated s)) members)
value_map s members at = of s (form.Map members) (plain.Map members) at (rolls-Map members)

-- the same of an expression that is a map
pub map_in : (s : Scoped) (e : Expr) (members given : List (Expr × Expr)) → e.form ≡ form.Map members → given ≡ members → value_of s e ≡ map_at e.at (map (pair_by (evaluated s)) given)
map_in s e members given is same = ap (λ (f : Form). value_in s f e.at) is ∙ value_map s members e.at ∙ ap (λ (ms : List (Expr × Expr)). map_at e.at (map (pair_by (evaluated s)) ms)) (sym same)

-- what a reference gives
pub value_refer : (s : Scoped) (kind : List ℕ) (titles : List Expr) (at : ℕ) → value_in s (form.Refer kind titles) at ≡ refer_at at kind (map (evaluated s) titles)
value_refer s kind titles at = of s (form.Refer kind titles) (plain.Refer kind titles) at (rolls-Refer kind titles)

-- what a text in double quotes gives
pub value_join : (s : Scoped) (members : List Expr) (at : ℕ) → value_in s (form.Join members) at ≡ joined_to at [] (map (evaluated s) members)
value_join s members at = of s (form.Join members) (plain.Join members) at (rolls-Join members)

-- what a chain of operators gives
pub value_chain : (s : Scoped) (first : Expr) (more : List (Op × Expr)) (at : ℕ) → value_in s (form.Chain first more) at ≡ chain_at at (evaluated s first) (map (operand_by (evaluated s)) more)
value_chain s first more at = of s (form.Chain first more) (plain.Chain first more) at (rolls-Chain first more)

-- what prefixes give
pub value_prefix : (s : Scoped) (ops : List Op) (x : Expr) (at : ℕ) → value_in s (form.Prefix ops x) at ≡ prefix_at at ops (value_of s x)
value_prefix s ops x at = of s (form.Prefix ops x) (plain.Prefix ops x) at (rolls-Prefix ops x)

-- what an index gives
pub value_at : (s : Scoped) (base key : Expr) (at : ℕ) → value_in s (form.Index base key) at ≡ index_at at (evaluated s base) (evaluated s key)
value_at s base key at = of s (form.Index base key) (plain.Index base key) at (rolls-Index base key)

-- what a selector gives
pub value_select : (s : Scoped) (control : Expr) (choices : List (Option Expr × Expr)) (at : ℕ) → value_in s (form.Select control choices) at ≡ select_at at (evaluated s control) (map (choice_by (evaluated s)) choices)
value_select s control choices at = of s (form.Select control choices) (plain.Select control choices) at (rolls-Select control choices)
    ∙ ap (λ (f : Option Expr × Expr → Option Evaluated × Evaluated). select_at at (evaluated s control) (map f choices)) (λ i. λ c. choice_mapped (evaluated s) c i)

-- ---- what is made in two steps

-- a chain gives what its operators make of its first operand
pub chain_is : (s : Scoped) (e first x : Expr) (more given : List (Op × Expr)) → e.form ≡ form.Chain first more → x ≡ first → given ≡ more
    → value_of s e ≡ (value_of s x >>= λ y. chain_from e.at y (map (operand_by (evaluated s)) given))
chain_is s e first x more given is x_is same = ap (λ (f : Form). value_in s f e.at) is ∙ value_chain s first more e.at
    ∙ ap (λ (z : Expr). value_of s z >>= λ y. chain_from e.at y (map (operand_by (evaluated s)) more)) (sym x_is)
    ∙ ap (λ (os : List (Op × Expr)). value_of s x >>= λ y. chain_from e.at y (map (operand_by (evaluated s)) os)) (sym same)

-- an index gives a member of its base
pub index_is : (s : Scoped) (e base key x k : Expr) → e.form ≡ form.Index base key → x ≡ base → k ≡ key → value_of s e ≡ index_at e.at (evaluated s x) (evaluated s k)
index_is s e base key x k is x_is k_is = ap (λ (f : Form). value_in s f e.at) is ∙ (value_at s base key e.at
    ∙ (λ i. index_at e.at (evaluated s (sym x_is i)) (evaluated s (sym k_is i))))

-- a selector gives what it selects by its control
pub select_is : (s : Scoped) (e control x : Expr) (choices given : List (Option Expr × Expr)) → e.form ≡ form.Select control choices → x ≡ control → given ≡ choices
    → value_of s e ≡ (value_of s x >>= λ y. selected e.at y (map (choice_by (evaluated s)) given))
select_is s e control x choices given is x_is same = ap (λ (f : Form). value_in s f e.at) is ∙ value_select s control choices e.at
    ∙ ap (λ (z : Expr). value_of s z >>= λ y. selected e.at y (map (choice_by (evaluated s)) choices)) (sym x_is)
    ∙ ap (λ (cs : List (Option Expr × Expr)). value_of s x >>= λ y. selected e.at y (map (choice_by (evaluated s)) cs)) (sym same)

-- what all forms of expressions give
pub ruleset forms = (value_int, value_str, value_var, value_bool, value_undef, value_list, value_map, value_refer, value_join, value_chain, value_prefix, value_at, value_select)
