-- Names one after another.
use Rattle.std.proofs.Common.{ℕ, List, [], ◌∷◌, ◌++◌}
use Rattle.catalog_semantics.specs.Catalogs.{Catalog}
use Rattle.placed_names.specs.Placed.{IsNameAt, AreNamesAt}

-- with one more resource and its name, resources and names go one with another
pub one_more : (text : List ℕ) (c : Catalog) (places : List ℕ) (names : List (List ℕ)) (place : ℕ) (name : List ℕ) → AreNamesAt text c places names → IsNameAt text c place name
    → AreNamesAt text c (places ++ place ∷ []) (names ++ name ∷ [])
one_more text c [] [] place name h k = (k, tt)
one_more text c [] (n ∷ names) place name h k = absurd h
one_more text c (p ∷ places) [] place name h k = absurd h
one_more text c (p ∷ places) (n ∷ names) place name h k = (h.0, one_more text c places names place name h.1 k)
