-- One class further among the inherited ones.
use Rattle.std.proofs.Common.{◌≡◌, ℕ, suc, List, Option, Some, None, sym, ◌∙◌, slice_get}
use Rattle.std.specs.Prelude.{option_and_then}
use Rattle.pp_value.specs.declared.value.Value.{Value}
use Rattle.pp_value.specs.Values.{value_at}
use Rattle.pp_eval.specs.declared.scope.Scope.{Scope}
use Rattle.pp_eval.specs.Scoping.{or_else, in_class}

-- where a class has no such name, looking goes on in the one that it inherits, with a turn less
pub further : (n m : ℕ) (scopes : List Scope) (name : List ℕ) (scope : Option Scope) (c : Scope) (next : Option Scope) (result : Option Value)
    → n ≡ suc m → scope ≡ Some c → None ≡ value_at name c.bindings → next ≡ option_and_then (slice_get scopes) c.parent → in_class n scopes name scope ≡ result → in_class m scopes name next ≡ result
further n m scopes name scope c next result is_n is_scope none is_next before =
    (λ i. in_class m scopes name (is_next i)) ∙ ((λ i. or_else (none i) (in_class m scopes name (option_and_then (slice_get scopes) c.parent)))
    ∙ ((λ i. in_class (suc m) scopes name (sym is_scope i)) ∙ ((λ i. in_class (sym is_n i) scopes name scope) ∙ before)))
