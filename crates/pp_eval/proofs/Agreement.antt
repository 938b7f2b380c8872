-- Scopes that agree on what is looked up give one evaluation.
use Rattle.std.proofs.Common.{◌≡◌, ℕ, List, refl, ap}
use Rattle.pp_syntax.specs.declared.tree.Expr.{Expr}
use Rattle.pp_syntax.specs.declared.tree.Form.{Form, Form-F, fold-Form}
use Rattle.pp_syntax.specs.declared.tree.Form.TheOpen as plain
use Rattle.pp_eval.specs.Scoping.{Scoped, find_in}
use Rattle.pp_eval.specs.Evaluating.{Evaluation, Evaluated}
use Rattle.pp_eval.specs.Evaluation.{bound_to, form_at, value_in, value_of}

module _ (s t : Scoped) (agree : (name : List ℕ) → find_in s name ≡ find_in t name) where
  -- a form whose expressions have evaluations gives the same in both
  one_form : {Y : Type 0} (f : Form-F Y Evaluated) (at : ℕ) → form_at s f at ≡ form_at t f at
  one_form (plain.Int n) at = refl
  one_form (plain.Str text) at = refl
  one_form (plain.Var name) at = ap (bound_to at name) (agree name)
  one_form (plain.Bool b) at = refl
  one_form plain.Undef at = refl
  one_form (plain.List members) at = refl
  one_form (plain.Map members) at = refl
  one_form (plain.Refer kind titles) at = refl
  one_form (plain.Join members) at = refl
  one_form (plain.Chain first more) at = refl
  one_form (plain.Prefix ops x) at = refl
  one_form (plain.Index base key) at = refl
  one_form (plain.Select control choices) at = refl

  -- a form gives the same in both
  one_value : (f : Form) → value_in s f ≡ value_in t f
  unfolding value_in
  one_value f = ap (λ (step : Form-F (ℕ → Evaluation) Evaluated → ℕ → Evaluation). fold-Form (ℕ → Evaluation) Evaluated step (λ x. record { at = x.at; gives = x.form x.at }) f) (λ i. λ y at. one_form y at i)

  -- so does an expression
  pub one_evaluation : (e : Expr) → value_of s e ≡ value_of t e
  one_evaluation e = ap (λ (f : ℕ → Evaluation). f e.at) (one_value e.form)
