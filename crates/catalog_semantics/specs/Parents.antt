-- The parents of a class that aren't declared yet, as they stand in line.
use Rattle.std.specs.Prelude.{◌≡◌, ◌⊎◌, ℕ, true, false, List, [], ◌∷◌, ◌++◌, map, Some, None}
use Rattle.std.specs.List.{IsDistinct}
use Rattle.std.specs.Str.{bytes_eq}
use Rattle.catalog_semantics.specs.Sites.{Definition, Site, definition_of}
use Rattle.catalog_semantics.specs.States.{State, is_declared}
use Rattle.catalog_semantics.specs.Declaring.{class_ref}

-- the class has no parent, or one that is declared already
abbrev pub HasNoneAhead : State → Definition → Type 0
HasNoneAhead s d = (d.parent ≡ None) ⊎ ((name : List ℕ) × ((d.parent ≡ Some name) × (is_declared (class_ref name) s ≡ true)))

-- One class is the parent of another, and isn't declared yet.
pub record IsAhead (site : Site) (s : State) (p d : Definition) : Type 0 where
  pub name : List ℕ
  pub parent : d.parent ≡ Some name
  pub defined : definition_of name site.classes ≡ Some p
  pub new : is_declared (class_ref name) s ≡ false

-- The line ends with the parent of the class, and ahead of each stands its own, up to one that has none ahead.
pub data StandAhead (site : Site) (s : State) : Definition → List Definition → Type 0 where
  none : {d : Definition} {line : List Definition} → HasNoneAhead s d → line ≡ [] → StandAhead site s d line
  parent : {d : Definition} {line : List Definition} (p : Definition) (front : List Definition) → IsAhead site s p d
      → line ≡ front ++ p ∷ []
      → StandAhead site s p front → StandAhead site s d line

-- They stand in line, each once.
pub record AreParents (site : Site) (s : State) (d : Definition) (line : List Definition) : Type 0 where
  pub ahead : StandAhead site s d line
  pub once : IsDistinct bytes_eq (map (λ e. e.name) line)
