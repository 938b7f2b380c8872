-- Links that every host has, and what paths are read as.
use Rattle.std.specs.Prelude.{◌≡◌, ◌⊎◌, List, [], ◌∷◌, ◌++◌, map}
use Rattle.std.specs.List.{AllByRecursion}
use Rattle.fs_semantics.specs.FileTree.{Path}
use Rattle.fs_semantics.specs.Disjoint.{AreDisjoint}
use Rattle.given_links.specs.declared.links.GivenLink.{GivenLink}

-- p is q or lies below it
abbrev pub IsWithin : Path → Path → Type 0
IsWithin p q = (more : Path) × (p ≡ q ++ more)

-- it is one of these links
abbrev pub IsOneOf : GivenLink → List GivenLink → Type 0
IsOneOf l [] = ⊥
IsOneOf l (m ∷ links) = (l ≡ m) ⊎ IsOneOf l links

-- the path is no link's path, and lies below none
abbrev pub IsBehindNone : Path → List GivenLink → Type 0
IsBehindNone p links = AllByRecursion (λ l. IsWithin p l.path → ⊥) links

-- No link's path is another one's or lies below it, and no link's target is a link's path or lies below one.
pub record AreLinks (links : List GivenLink) : Type 0 where
  pub paths : AreDisjoint (map (λ l. l.path) links)
  pub targets : AllByRecursion (λ l. IsBehindNone l.target links) links

-- What a path is read as: where it is a link's path or lies below it, what the same place at or below the target is read as; else
-- itself.
pub data IsReadAs (links : List GivenLink) : Path → Path → Type 0 where
  stays : {p : Path} → IsBehindNone p links → IsReadAs links p p
  goes : {p q : Path} (l : GivenLink) (more : Path) → IsOneOf l links → p ≡ l.path ++ more
      → IsReadAs links (l.target ++ more) q → IsReadAs links p q
