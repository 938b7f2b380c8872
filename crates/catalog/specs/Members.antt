-- What a class or a defined resource has in it.
use Rattle.std.specs.Prelude.{◌≡◌, ℕ, ◌+◌, Bool, false, ◌&&◌, ◌==◌, not, if◌then◌else◌, List, [], ◌∷◌, ◌++◌, slice_index_or, Option, Some, None}
use Rattle.std.specs.List.{list_any}
use Rattle.catalog_semantics.specs.declared.catalog.Resource.{Resource}
use Rattle.catalog_semantics.specs.declared.state.Holding.{Holding}
use Rattle.catalog_semantics.specs.Catalogs.{Catalog}

-- ---- holdings

-- a class goes last, unless it stands already
abbrev pub with_class : ℕ → List ℕ → List ℕ
with_class class classes = if list_any (λ k. k == class) classes then classes else classes ++ class ∷ []

abbrev pub with_held : ℕ → List ℕ → Holding → List ℕ
with_held outer classes h = if h.outer == outer then with_class h.class classes else classes

-- these classes, and then those that the holdings put in a container, in their order, each once
abbrev pub held_after : ℕ → List ℕ → List Holding → List ℕ
held_after outer classes [] = classes
held_after outer classes (h ∷ holdings) = held_after outer (with_held outer classes h) holdings

-- the classes that the holdings put in a container, in their order, each once
abbrev pub classes_in : ℕ → List Holding → List ℕ
classes_in outer holdings = held_after outer [] holdings

-- the row of each container has the classes in it; where there is no row, there are none
abbrev pub AreRows : List (List ℕ) → List Holding → Type 0
AreRows rows holdings = (outer : ℕ) → slice_index_or rows outer [] ≡ classes_in outer holdings

-- ---- members

abbrev pub is_held_by : ℕ → Option ℕ → Bool
is_held_by outer None = false
is_held_by outer (Some holder) = holder == outer

-- a real resource that the container holds
abbrev pub is_inside : ℕ → Resource → Bool
is_inside outer r = is_held_by outer r.holder && not r.is_virtual

-- the places of the real resources that a container holds, where those given are counted from n on
abbrev pub inside : ℕ → ℕ → List Resource → List ℕ
inside outer n [] = []
inside outer n (r ∷ resources) = if is_inside outer r then n ∷ inside outer (n + 1) resources else inside outer (n + 1) resources

-- the real resources that a container holds, and then the classes that the holdings put in it
abbrev pub members_of : ℕ → Catalog → List ℕ
members_of outer c = inside outer 0 c.resources ++ classes_in outer c.holdings
