-- Two programs next to one another in an allowed order, as early or as late as the order allows.
use Rattle.std.specs.Prelude.{◌≡◌, ◌==◌, ◌⊎◌, ℕ, Bool, not, ◌&&◌, ◌||◌, List, [], ◌∷◌, ◌++◌, if◌then◌else◌}
use Rattle.std.specs.List.{AllByRecursion}
use Rattle.fs_semantics.specs.Orders.{IsLinearExtension, IsExchange}
use Rattle.orders.specs.Relation.{Relation, comes, Comes}
use Rattle.tried_trees.specs.declared.placing.Place.{Place}
use Rattle.tried_trees.specs.declared.placing.Place.TheVariants.{Early, Late}

-- a and b stand next to one another in the first order, b and a in the second, and all others as before
pub record IsSwap (a b : ℕ) (left right front back : List ℕ) : Type 0 where
  pub was : left ≡ front ++ a ∷ b ∷ back
  pub is : right ≡ front ++ b ∷ a ∷ back

-- Early: ahead of the two stands only what comes before one of them. Late: behind them only what comes after one of them.
abbrev pub OnlyNeeded : Place → Relation → ℕ → ℕ → List ℕ → List ℕ → Type 0
OnlyNeeded Early order a b front back = AllByRecursion (λ k. Comes order k a ⊎ Comes order k b) front
OnlyNeeded Late order a b front back = AllByRecursion (λ k. Comes order a k ⊎ Comes order b k) back

-- Two allowed orders in which a and b stand next to one another, as early or as late as the order allows, once in this order
-- and once in the other.
pub record IsPlaced (place : Place) (order : Relation) (a b : ℕ) (left right : List ℕ) : Type 0 where
  pub left_allowed : IsLinearExtension order.count (Comes order) left
  pub right_allowed : IsLinearExtension order.count (Comes order) right
  pub exchange : IsExchange (Comes order) left right
  pub front : List ℕ
  pub back : List ℕ
  pub swap : IsSwap a b left right front back
  pub only : OnlyNeeded place order a b front back

-- Early: k comes before a or b. Late: k comes after a or b.
abbrev pub near : Place → Relation → ℕ → ℕ → ℕ → Bool
near Early order a b k = comes order k a || comes order k b
near Late order a b k = comes order a k || comes order b k

-- k is neither of the two, and not near them
abbrev pub aside : Place → Relation → ℕ → ℕ → ℕ → Bool
aside place order a b k = not (a == k) && not (b == k) && not (near place order a b k)

-- those numbers of a list that pass
abbrev pub those : (ℕ → Bool) → List ℕ → List ℕ
those test [] = []
those test (k ∷ ks) = (if test k then k ∷ [] else []) ++ those test ks
