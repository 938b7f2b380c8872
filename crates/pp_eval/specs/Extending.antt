-- Scopes to which only something is added.
use Rattle.std.specs.Prelude.{◌≡◌, List, [], ◌∷◌, ◌++◌}
use Rattle.pp_eval.specs.declared.scope.Scope.{Scope}
use Rattle.pp_eval.specs.Scoping.{Scoped}

-- the one list begins with the other
abbrev pub Begins : {A : Type 0} → List A → List A → Type 0
Begins {A} front whole = (more : List A) × (whole ≡ front ++ more)

-- The scopes stay, each with its sort, its parent and its bindings, and there may be more of both.
abbrev pub ScopesGrow : List Scope → List Scope → Type 0
ScopesGrow [] new = Unit {0}
ScopesGrow (a ∷ old) [] = ⊥
ScopesGrow (a ∷ old) (b ∷ new) = ((b.sort ≡ a.sort) × (b.parent ≡ a.parent) × Begins a.bindings b.bindings) × ScopesGrow old new

-- The same scopes are open, and all that stood stands.
pub record Extends (s t : Scoped) : Type 0 where
  pub open_ones : t.1 ≡ s.1
  pub scopes : ScopesGrow s.0 t.0
