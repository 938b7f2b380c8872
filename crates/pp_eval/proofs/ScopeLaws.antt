-- One scope among all.
use Rattle.std.proofs.Common.{◌≡◌, ℕ, zero, suc, ◌<◌, List, [], ◌∷◌, ◌++◌, length, get_or, Result, Ok, Err, refl, ap, sym, ◌∙◌, arith}
use Rattle.std.specs.Prelude.{slice_set}
use Rattle.pp_value.specs.declared.value.Value.{Value}
use Rattle.pp_value.specs.Values.{Pair, value_at}
use Rattle.pp_eval.specs.declared.scope.Scope.{Scope}
use Rattle.pp_eval.specs.declared.scopes.BindFault.{BindFault}
use Rattle.pp_eval.specs.declared.scopes.BindFault.TheVariants as fault
use Rattle.pp_eval.specs.Scoping.{Binds, BindsAt, bindings_at, with_bindings_at}

-- a scope with other bindings
abbrev pub with_bindings : Scope → List Pair → Scope
with_bindings s b = record { sort = s.sort; parent = s.parent; bindings = b }

-- the bindings of the scope at a place are those there
here : (scopes : List Scope) (place : ℕ) (d s : Scope) → s ≡ get_or scopes place d → place < length scopes → s.bindings ≡ bindings_at place scopes
here [] place d s h within = absurd (omega arith)
here (p ∷ scopes) zero d s h within = ap (λ (t : Scope). t.bindings) h
here (p ∷ scopes) (suc place) d s h within = here scopes place d s h (omega arith)

-- writing a scope with other bindings at its place puts them there
set_is : (scopes : List Scope) (place : ℕ) (d s : Scope) (b : List Pair) → s ≡ get_or scopes place d → place < length scopes → slice_set scopes place (with_bindings s b) ≡ with_bindings_at place b scopes
set_is [] place d s b h within = refl
set_is (p ∷ scopes) zero d s b h within = ap (λ (t : Scope). with_bindings t b ∷ scopes) h
set_is (p ∷ scopes) (suc place) d s b h within = ap (λ more. p ∷ more) (set_is scopes place d s b h (omega arith))

-- the bindings that are there change nothing
unchanged : (scopes : List Scope) (place : ℕ) → with_bindings_at place (bindings_at place scopes) scopes ≡ scopes
unchanged [] place = refl
unchanged (p ∷ scopes) zero = refl
unchanged (p ∷ scopes) (suc place) = ap (λ more. p ∷ more) (unchanged scopes place)

-- so does writing a scope with the bindings that it has
written : (scopes : List Scope) (place : ℕ) (d s : Scope) (b : List Pair) → s ≡ get_or scopes place d → place < length scopes → b ≡ s.bindings → slice_set scopes place (with_bindings s b) ≡ scopes
written scopes place d s b h within same = set_is scopes place d s b h within ∙ (ap (λ c. with_bindings_at place c scopes) (same ∙ here scopes place d s h within) ∙ unchanged scopes place)

-- binding a name in one scope is binding it at the scope's place
pub bound_at : (scopes : List Scope) (place : ℕ) (d s : Scope) (name : List ℕ) (x : Value) (b : List Pair) (r : Result (Unit {0}) BindFault) → s ≡ get_or scopes place d → place < length scopes → Binds s.bindings name x b r → BindsAt place scopes name x (slice_set scopes place (with_bindings s b)) r
bound_at scopes place d s name x b (Ok done) h within binds =
    let at = here scopes place d s h within in
    (ap (value_at name) (sym at) ∙ binds.0, set_is scopes place d s b h within ∙ ap (λ c. with_bindings_at place c scopes) (binds.1 ∙ ap (λ c. c ++ (name, x) ∷ []) at))
bound_at scopes place d s name x b (Err fault.Again) h within binds =
    let at = here scopes place d s h within in
    ((λ none. binds.0 (ap (value_at name) at ∙ none)), written scopes place d s b h within binds.1)
bound_at scopes place d s name x b (Err (fault.Memory m)) h within binds =
    let at = here scopes place d s h within in
    (ap (value_at name) (sym at) ∙ binds.0, written scopes place d s b h within binds.1)
