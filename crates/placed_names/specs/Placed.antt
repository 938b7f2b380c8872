-- Names of resources that tell where they stand.
use Rattle.std.specs.Prelude.{◌≡◌, ℕ, List, [], ◌∷◌, ◌++◌, Some, slice_get, codes}
use Rattle.std.specs.Fmt.{decimal}
use Rattle.text_places.specs.Places.{IsPlace}
use Rattle.printed_names.specs.Printed.{printed}
use Rattle.pp_value.specs.Shown.{shown_ref}
use Rattle.catalog_semantics.specs.declared.catalog.Resource.{Resource}
use Rattle.catalog_semantics.specs.Catalogs.{Catalog}

-- behind a reference, the line and the column
abbrev pub with_place : List ℕ → ℕ → ℕ → List ℕ
with_place reference line column = reference ++ (codes " (" ++ (decimal line ++ (codes ":" ++ (decimal column ++ codes ")"))))

-- The reference of the resource as it is printed, and behind it the line and the column of the manifest at which it stands.
pub record IsPlacedName (text : List ℕ) (r : Resource) (name : List ℕ) : Type 0 where
  pub line : ℕ
  pub column : ℕ
  pub place : IsPlace text r.at line column
  pub is : name ≡ with_place (printed (shown_ref r.id)) line column

-- so the resource at this place of the catalog is named
pub record IsNameAt (text : List ℕ) (c : Catalog) (place : ℕ) (name : List ℕ) : Type 0 where
  pub resource : Resource
  pub there : slice_get c.resources place ≡ Some resource
  pub placed : IsPlacedName text resource name

-- so are the resources at these places, one after another
abbrev pub AreNamesAt : List ℕ → Catalog → List ℕ → List (List ℕ) → Type 0
AreNamesAt text c [] [] = Unit {0}
AreNamesAt text c [] (name ∷ names) = ⊥
AreNamesAt text c (place ∷ places) [] = ⊥
AreNamesAt text c (place ∷ places) (name ∷ names) = IsNameAt text c place name × AreNamesAt text c places names
