-- What is known while arrows are added, and while they are left out again.
use Rattle.std.specs.Prelude.{◌≡◌, ◌≢◌, ℕ, zero, suc, ◌+◌, Bool, List, [], ◌∷◌, ◌++◌, if◌then◌else◌}
use Rattle.std.specs.List.{All, Contains}
use Rattle.fs_semantics.specs.Programs.{Program}
use Rattle.fs_semantics.specs.Orders.{IsDeterministic}
use Rattle.orders.specs.Relation.{Relation, comes}
use Rattle.repair.specs.Arrows.{ComesWith, CanBeAdded}
use Rattle.repair.specs.Repairs.{PointRight}
use Rattle.repair.specs.Answers.{IsSpentWith}
use Rattle.repair.specs.declared.repaired.Repaired.{Repaired}
use Rattle.repair.specs.declared.repaired.Repaired.TheVariants as repaired

-- without the last of the arrows the graph isn't deterministic
abbrev pub IsLastNeeded : List Program → Relation → List (ℕ × ℕ) → Type 0
IsLastNeeded es order arrows = (front : List (ℕ × ℕ)) (arrow : ℕ × ℕ) → arrows ≡ front ++ arrow ∷ []
    → IsDeterministic es (ComesWith order front) → ⊥

-- What is known of arrows that were added one by one: each was missing.
pub record WereMissing (es : List Program) (order : Relation) (arrows : List (ℕ × ℕ)) : Type 0 where
  pub added : CanBeAdded order arrows
  pub last : IsLastNeeded es order arrows
  pub right : arrows ≢ [] → PointRight es order arrows

-- What is known when no arrow is missing any more, or the budget was spent.
abbrev pub IsAdded : List Program → Relation → ℕ → Repaired → Type 0
IsAdded es order budget (repaired.Done added) = WereMissing es order added × IsDeterministic es (ComesWith order added)
IsAdded es order budget (repaired.Spent added cnf log) = CanBeAdded order added × IsSpentWith es order budget added cnf log.steps

-- none of these arrows can be left out as long as the others stay
abbrev pub AreNeededBeside : List Program → Relation → List (ℕ × ℕ) → List (ℕ × ℕ) → Type 0
AreNeededBeside es order others arrows = (front : List (ℕ × ℕ)) (arrow : ℕ × ℕ) (back : List (ℕ × ℕ)) → arrows ≡ front ++ arrow ∷ back
    → IsDeterministic es (ComesWith order (others ++ (front ++ back))) → ⊥

-- Some arrows were looked at and are needed, beside others that are still to be looked at.
pub record AreLeft (es : List Program) (order : Relation) (all others arrows : List (ℕ × ℕ)) : Type 0 where
  pub among : All (Contains all) (others ++ arrows)
  pub deterministic : IsDeterministic es (ComesWith order (others ++ arrows))
  pub needed : AreNeededBeside es order others arrows

-- how many of the first m numbers don't come after a
abbrev pub not_behind : (ℕ → ℕ → Bool) → ℕ → ℕ → ℕ
not_behind before a zero = 0
not_behind before a (suc m) = (if before a m then 0 else 1) + not_behind before a m

-- of how many pairs, of one of the first n numbers and one of the first m, the first doesn't come before the second
abbrev pub unordered : (ℕ → ℕ → Bool) → ℕ → ℕ → ℕ
unordered before m zero = 0
unordered before m (suc n) = not_behind before n m + unordered before m n

-- of how many pairs of resources the first doesn't come before the second
abbrev pub pairs_left : Relation → ℕ
pairs_left order = unordered (comes order) order.count order.count
