-- Parents stand before the classes that inherit them.
use Rattle.std.specs.Prelude.{◌≡◌, ℕ, ◌<◌, List, slice_get, Some}
use Rattle.pp_eval.specs.declared.scope.Scope.{Scope}

-- the place of a parent is below that of the scope whose parent it is
abbrev pub ParentsStandBefore : List Scope → Type 0
ParentsStandBefore scopes = (place parent : ℕ) (s : Scope) → slice_get scopes place ≡ Some s → s.parent ≡ Some parent → parent < place
