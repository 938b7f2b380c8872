-- A word with nothing but indexes behind it, as a variable.
use Rattle.std.proofs.Common.{◌≡◌, ◌≢◌, ◌⊎◌, inl, inr, ℕ, List, refl, sym, ap, subst, ◌∙◌}
use Rattle.pp_syntax.specs.declared.tree.Expr.{Expr}
use Rattle.pp_syntax.specs.declared.tree.Form.{Form, Form-F, out-Form}
use Rattle.pp_syntax.specs.declared.tree.Form.TheOpen as plain
use Rattle.pp_syntax.specs.declared.tree.Form.TheVariants.{outs-Index}
use Rattle.pp_syntax.specs.Derivation.{ReadAsVariable, base, index}
use Rattle.pp_syntax.specs.declared.tree.Form.TheVariants as form
use Rattle.pp_syntax.specs.declared.tree.Form.TheBlock as block
use Rattle.pp_readers.specs.Expressions.{form_as_variable, as_variable}

-- an index reads as a variable what it stands behind
pub at_as_variable : (a k : Expr) → form_as_variable (form.Index a k) ≡ form.Index (as_variable a) k
unfolding block.shape-the_row-Expr-2 block.hidden-the_row-Expr-2 denote.Hole.Carrier.hidden
at_as_variable a k = refl

-- the base of an index is known by it
at_same : (a k b j : Expr) → form.Index a k ≡ form.Index b j → a ≡ b
at_same a k b j h =
    let same : ◌≡◌ {A = Form-F Form Expr} (plain.Index a k) (plain.Index b j) = sym (outs-Index a k) ∙ ap out-Form h ∙ outs-Index b j in
    cc

-- An expression that isn't a word with nothing but indexes behind it stays.
abbrev pub Stays : Expr → Type 0
Stays x = ((z : Expr) → ReadAsVariable x z → ⊥) × (as_variable x ≡ x)

-- an index is this value of the declared type
at_is : (at kat : ℕ) (f k : Form) → form.Index (record { at = at; form = f }) (record { at = kat; form = k }) ≡ block.Index' tt (block.more_of-Expr at f block.end_of-Expr) tt (block.more_of-Expr kat k block.end_of-Expr)
unfolding block.shape-the_row-Expr-2 block.hidden-the_row-Expr-2 denote.Hole.Carrier.hidden
at_is at kat f k = refl

-- a form that is neither a text nor an index stays
stays : (at : ℕ) (f : Form) → ((name : List ℕ) → f ≢ form.Str name) → ((a k : Expr) → f ≢ form.Index a k) → form_as_variable f ≡ f → Stays (record { at = at; form = f })
stays at f no_text no_index same = (λ z r. never z r, ap (λ (g : Form). record { at = at; form = g }) same)
  where
    never : (z : Expr) → ReadAsVariable (record { at = at; form = f }) z → ⊥
    never z (base name e g h) = no_text name e
    never z (index a b k e g h r) = no_index a k e

-- a form is read as a variable, or stays
pub variable_found : (at : ℕ) (f : Form) → ReadAsVariable (record { at = at; form = f }) (as_variable (record { at = at; form = f })) ⊎ Stays (record { at = at; form = f })
variable_found at (form.Int n) = inr (stays at (form.Int n) (λ name e. cc) (λ a k e. cc) refl)
variable_found at (form.Str name) = inl (base name refl refl refl)
variable_found at (form.Var name) = inr (stays at (form.Var name) (λ name e. cc) (λ a k e. cc) refl)
variable_found at (form.Bool v) = inr (stays at (form.Bool v) (λ name e. cc) (λ a k e. cc) refl)
variable_found at form.Undef = inr (stays at form.Undef (λ name e. cc) (λ a k e. cc) refl)
variable_found at (block.List' s r) = inr (stays at (block.List' s r) (λ name e. cc) (λ a k e. cc) refl)
variable_found at (block.Map' s r) = inr (stays at (block.Map' s r) (λ name e. cc) (λ a k e. cc) refl)
variable_found at (block.Refer' name s r) = inr (stays at (block.Refer' name s r) (λ name e. cc) (λ a k e. cc) refl)
variable_found at (block.Join' s r) = inr (stays at (block.Join' s r) (λ name e. cc) (λ a k e. cc) refl)
variable_found at (block.Chain' s r u v) = inr (stays at (block.Chain' s r u v) (λ name e. cc) (λ a k e. cc) refl)
variable_found at (block.Prefix' ops s r) = inr (stays at (block.Prefix' ops s r) (λ name e. cc) (λ a k e. cc) refl)
variable_found at (block.Select' s r u v) = inr (stays at (block.Select' s r u v) (λ name e. cc) (λ a k e. cc) refl)
variable_found at (block.Index' s (block.more_of-Expr b f block.end_of-Expr) u (block.more_of-Expr c k block.end_of-Expr)) =
    let x : Expr = record { at = at; form = form.Index (record { at = b; form = f }) (record { at = c; form = k }) } in
    subst (λ (g : Form). ReadAsVariable (record { at = at; form = g }) (as_variable (record { at = at; form = g })) ⊎ Stays (record { at = at; form = g })) (at_is b c f k) (of_base (variable_found b f))
  where
    of_base : ReadAsVariable (record { at = b; form = f }) (as_variable (record { at = b; form = f })) ⊎ Stays (record { at = b; form = f })
        → ReadAsVariable (record { at = at; form = form.Index (record { at = b; form = f }) (record { at = c; form = k }) }) (as_variable (record { at = at; form = form.Index (record { at = b; form = f }) (record { at = c; form = k }) }))
        ⊎ Stays (record { at = at; form = form.Index (record { at = b; form = f }) (record { at = c; form = k }) })
    of_base (inl r) = inl (index (record { at = b; form = f }) (as_variable (record { at = b; form = f })) (record { at = c; form = k }) refl (at_as_variable (record { at = b; form = f }) (record { at = c; form = k })) refl r)
    of_base (inr n) = inr (stay, ap (λ (g : Form). record { at = at; form = g }) (at_as_variable (record { at = b; form = f }) (record { at = c; form = k }) ∙ ap (λ (a : Expr). form.Index a (record { at = c; form = k })) n.1))
      where
        stay : (z : Expr) → ReadAsVariable (record { at = at; form = form.Index (record { at = b; form = f }) (record { at = c; form = k }) }) z → ⊥
        stay z (base name e g h) = cc
        stay z (index a d j e g h r) = n.0 d (subst (λ (a : Expr). ReadAsVariable a d) (sym (at_same (record { at = b; form = f }) (record { at = c; form = k }) a j e)) r)
