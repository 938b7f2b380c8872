-- Paths by number.
use Rattle.std.specs.Prelude.{◌≡◌, ℕ, ◌<◌, Bool, IsTrue, ◌==◌, false, List, Option, Some, slice_index_or}
use Rattle.std.specs.List.{list_any}
use Rattle.std.specs.BTreeMap.{BTreeMap, get, btree_map_len}
use Rattle.fs_semantics.specs.FileTree.{Path, path_cmp}
use Rattle.effect_sets.specs.Footprints.{Paths}

-- the number of a path, if it has one
abbrev pub number_in : BTreeMap Path ℕ → Path → Option ℕ
number_in m p = get path_cmp m p

-- different paths have different numbers, all below the count
pub record IsNumbering (m : BTreeMap Path ℕ) : Type 0 where
  pub below : (p : Path) (n : ℕ) → number_in m p ≡ Some n → n < btree_map_len m
  pub apart : (p q : Path) (n : ℕ) → number_in m p ≡ Some n → number_in m q ≡ Some n → p ≡ q

-- numbers that were given stay
abbrev pub Extends : BTreeMap Path ℕ → BTreeMap Path ℕ → Type 0
Extends m more = (p : Path) (n : ℕ) → number_in m p ≡ Some n → number_in more p ≡ Some n

-- the number stands in the list
abbrev pub has : ℕ → List ℕ → Bool
has n ns = list_any (λ k. n == k) ns

-- these are just the numbers of the paths in the set
pub record AreNumbers (m : BTreeMap Path ℕ) (f : Paths) (ns : List ℕ) : Type 0 where
  pub stands : (p : Path) → IsTrue (f p) → (n : ℕ) × (number_in m p ≡ Some n) × IsTrue (has n ns)
  pub stems : (n : ℕ) → IsTrue (has n ns) → (p : Path) × IsTrue (f p) × (number_in m p ≡ Some n)

-- one of these numbers has a mark
abbrev pub any_marked : List Bool → List ℕ → Bool
any_marked marks ns = list_any (λ n. slice_index_or marks n false) ns
