-- Pairs of programs whose order may matter.
use Rattle.std.specs.Prelude.{◌⊎◌, ℕ, ◌<◌, Bool, not, ◌&&◌, List, length}
use Rattle.std.specs.List.{Contains}
use Rattle.std.proofs.Common.{nat_lt}
use Rattle.fs_semantics.specs.Programs.{Program}
use Rattle.fs_semantics.specs.Orders.{Told, IsFree}
use Rattle.effect_sets.specs.Footprints.{AreApart}
use Rattle.orders.specs.Relation.{Relation, comes}
use Rattle.commute_prune.specs.Steps.{are_apart}
use Rattle.commute_prune.specs.Sure.{footprint_at}

-- the programs are apart, each where the folders stand that are sure before it
abbrev pub AreApartWhereSure : List Program → (ℕ → ℕ → Bool) → ℕ → ℕ → Type 0
AreApartWhereSure es before a b = AreApart (footprint_at es before a) (footprint_at es before b)

-- Neither of the two comes before the other, and they aren't apart.
pub record IsDoubtful (es : List Program) (before : ℕ → ℕ → Bool) (a b : ℕ) : Type 0 where
  pub ordered : a < b
  pub below : b < length es
  pub free : IsFree (Told before) a b
  pub meet : AreApartWhereSure es before a b → ⊥

-- Just the doubtful pairs stand in the list, the lesser number first.
pub record AreDoubtful (es : List Program) (before : ℕ → ℕ → Bool) (pairs : List (ℕ × ℕ)) : Type 0 where
  pub all : (a b : ℕ) → a < b → b < length es → IsFree (Told before) a b → Contains pairs (a, b) ⊎ AreApartWhereSure es before a b
  pub only : (a b : ℕ) → Contains pairs (a, b) → IsDoubtful es before a b

-- Just the pairs of programs stand in the list that aren't apart, whether or not one comes before the other, the lesser number first.
pub record AreTouching (es : List Program) (before : ℕ → ℕ → Bool) (pairs : List (ℕ × ℕ)) : Type 0 where
  pub all : (a b : ℕ) → a < b → b < length es → Contains pairs (a, b) ⊎ AreApartWhereSure es before a b
  pub only : (a b : ℕ) → Contains pairs (a, b) → (a < b) × (b < length es) × (AreApartWhereSure es before a b → ⊥)

-- the lesser number first, neither comes before the other, and the rows don't tell that they are apart
abbrev pub is_doubtful : Relation → List (List Bool) → ℕ → ℕ → Bool
is_doubtful order rows a b = nat_lt a b && not (comes order a b) && not (comes order b a) && not (are_apart rows a b)
