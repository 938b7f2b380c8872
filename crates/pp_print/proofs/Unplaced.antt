-- An expression without its places, by the expressions in it.
use Rattle.std.proofs.Common.{◌≡◌, ℕ, List, map, sym, ap, ◌∙◌}
use Rattle.std.specs.Prelude.{Option}
use Rattle.pp_syntax.specs.declared.tree.Expr.{Expr, fold-Expr, fold_out-Expr}
use Rattle.pp_syntax.specs.declared.tree.Form.{Form, Form-F, fold-roll-Form, roll-Form, map-Form}
use Rattle.pp_syntax.specs.declared.tree.Form.TheOpen as plain
use Rattle.pp_syntax.specs.declared.tree.Form.TheVariants as form
use Rattle.pp_syntax.specs.declared.tree.Form.TheVariants.{rolls-List, rolls-Map, rolls-Refer, rolls-Join, rolls-Chain, rolls-Prefix, rolls-Index, rolls-Select}
use Rattle.pp_syntax.specs.declared.tree.Form.TheShapes.{former-Form-Select-1-at-3}
use Rattle.pp_syntax.specs.declared.tree.Op.{Op}
use Rattle.pp_print.specs.Places.{unplaced_form, unplaced}

-- an expression without places, from the bottom up
folded : Expr → Expr
folded x = fold-Expr Form Expr roll-Form (λ x. record { at = 0; form = x.form }) x

-- that is the expression without places
folded_is : (x : Expr) → folded x ≡ unplaced x
unfolding folded unplaced_form
folded_is x = fold_out-Expr Form Expr roll-Form (λ x. record { at = 0; form = x.form }) x

-- without places a form is its first step without places
pub rolled : (d : Form-F Form Expr) → unplaced_form (roll-Form d) ≡ roll-Form (map-Form Form Expr Form Expr unplaced_form unplaced d)
unfolding folded unplaced_form
rolled d = fold-roll-Form Form Expr roll-Form (λ x. record { at = 0; form = x.form }) d ∙ ap (λ (h : Expr → Expr). roll-Form (map-Form Form Expr Form Expr unplaced_form h d)) (λ i. λ x. folded_is x i)

-- a pair without places
abbrev pub unplaced_pair : Expr × Expr → Expr × Expr
unplaced_pair p = record { 0 = unplaced p.0; 1 = unplaced p.1 }

-- an operator and its operand without places
abbrev pub unplaced_operation : Op × Expr → Op × Expr
unplaced_operation o = record { 0 = o.0; 1 = unplaced o.1 }

-- a choice without places
abbrev pub unplaced_choice : Option Expr × Expr → Option Expr × Expr
unplaced_choice c = former-Form-Select-1-at-3.map Expr Expr unplaced c

-- a list without places
pub unplaced_list : (xs : List Expr) → unplaced_form (form.List xs) ≡ form.List (map unplaced xs)
unplaced_list xs = sym (ap unplaced_form (rolls-List xs)) ∙ rolled (plain.List xs) ∙ rolls-List (map unplaced xs)

-- a map without places
pub unplaced_map : (ps : List (Expr × Expr)) → unplaced_form (form.Map ps) ≡ form.Map (map unplaced_pair ps)
unplaced_map ps = sym (ap unplaced_form (rolls-Map ps)) ∙ rolled (plain.Map ps) ∙ rolls-Map (map unplaced_pair ps)

-- a reference without places
pub unplaced_refer : (name : List ℕ) (xs : List Expr) → unplaced_form (form.Refer name xs) ≡ form.Refer name (map unplaced xs)
unplaced_refer name xs = sym (ap unplaced_form (rolls-Refer name xs)) ∙ rolled (plain.Refer name xs) ∙ rolls-Refer name (map unplaced xs)

-- a text in double quotes without places
pub unplaced_join : (xs : List Expr) → unplaced_form (form.Join xs) ≡ form.Join (map unplaced xs)
unplaced_join xs = sym (ap unplaced_form (rolls-Join xs)) ∙ rolled (plain.Join xs) ∙ rolls-Join (map unplaced xs)

-- a chain of operators without places
pub unplaced_chain : (x : Expr) (os : List (Op × Expr)) → unplaced_form (form.Chain x os) ≡ form.Chain (unplaced x) (map unplaced_operation os)
unplaced_chain x os = sym (ap unplaced_form (rolls-Chain x os)) ∙ rolled (plain.Chain x os) ∙ rolls-Chain (unplaced x) (map unplaced_operation os)

-- prefixes without places
pub unplaced_prefix : (ops : List Op) (x : Expr) → unplaced_form (form.Prefix ops x) ≡ form.Prefix ops (unplaced x)
unplaced_prefix ops x = sym (ap unplaced_form (rolls-Prefix ops x)) ∙ rolled (plain.Prefix ops x) ∙ rolls-Prefix ops (unplaced x)

-- an index without places
pub unplaced_at : (x k : Expr) → unplaced_form (form.Index x k) ≡ form.Index (unplaced x) (unplaced k)
unplaced_at x k = sym (ap unplaced_form (rolls-Index x k)) ∙ rolled (plain.Index x k) ∙ rolls-Index (unplaced x) (unplaced k)

-- a selection without places
pub unplaced_select : (x : Expr) (cs : List (Option Expr × Expr)) → unplaced_form (form.Select x cs) ≡ form.Select (unplaced x) (map unplaced_choice cs)
unplaced_select x cs = sym (ap unplaced_form (rolls-Select x cs)) ∙ rolled (plain.Select x cs) ∙ rolls-Select (unplaced x) (map unplaced_choice cs)
