-- The parts of a variable's name.
use Rattle.std.specs.Prelude.{ℕ, ◌+◌, ◌-◌, Bool, ◌==◌, ◌&&◌, if◌then◌else◌, List, [], ◌∷◌, length, take}
use Rattle.std.specs.List.{list_any}

abbrev pub is_colon : ℕ → Bool
is_colon c = c == 58

-- what stands behind the last colon; all, where there is none
abbrev pub variable_in : List ℕ → List ℕ
variable_in [] = []
variable_in (c ∷ name) = if list_any is_colon (c ∷ name) then variable_in name else c ∷ name

-- a name without the two colons in front
abbrev pub unrooted : List ℕ → List ℕ
unrooted [] = []
unrooted (c ∷ []) = c ∷ []
unrooted (c ∷ d ∷ name) = if is_colon c && is_colon d then name else c ∷ d ∷ name

-- the name of the scope that a qualified name names: what stands before the variable and the two colons between, without those in front; none for the top
abbrev pub scope_in : List ℕ → List ℕ
scope_in name = unrooted (take (length name - (length (variable_in name) + 2)) name)

-- another scope than the current one is named
abbrev pub is_qualified : List ℕ → Bool
is_qualified name = list_any is_colon name
