-- What pruning answers, and a step of it.
use Rattle.std.specs.Prelude.{◌≡◌, ℕ, ◌<◌, Bool, true, false, List, [], ◌∷◌, ◌++◌, length, Option, Some, None}
use Rattle.std.specs.List.{AllByRecursion}
use Rattle.fs_semantics.specs.Programs.{Program}
use Rattle.fs_semantics.specs.Orders.{up_from}
use Rattle.orders.specs.Relation.{Relation}
use Rattle.commute_prune.specs.declared.settling.Pruned.{Pruned}
use Rattle.commute_prune.specs.declared.settling.Pruning.{Pruning}
use Rattle.commute_prune.specs.Pruning.{Prunes}
use Rattle.sure_folders.specs.Pruning.{Move, ToFirst, ToLast, without, firsts, lasts}
use Rattle.commute_prune.specs.Steps.{next_move}

-- The moves of pruning, from all programs on, lead to what is kept.
pub record IsPruned (es : List Program) (before : ℕ → ℕ → Type 0) (p : Pruned) : Type 0 where
  pub moves : List Move
  pub prunes : Prunes es before moves (up_from 0 (length es)) p.kept
  pub first_is : p.first ≡ firsts moves
  pub last_is : p.last ≡ lasts moves

-- what goes last, in the order in which it goes
abbrev pub lates : List Move → List ℕ
lates [] = []
lates (ToFirst k ∷ moves) = lates moves
lates (ToLast k ∷ moves) = k ∷ lates moves

-- what one move makes of this, and whether there was one
abbrev pub Stepped : Option Move → Pruning → Pruning → Bool → Type 0
Stepped None s t more = (more ≡ false) × (t ≡ s)
Stepped (Some (ToLast k)) s t more = (more ≡ true) × (t.kept ≡ without k s.kept) × (t.first ≡ s.first)
    × (t.late.items ≡ s.late.items ++ k ∷ [])
Stepped (Some (ToFirst k)) s t more = (more ≡ true) × (t.kept ≡ without k s.kept) × (t.first ≡ s.first ++ k ∷ [])
    × (t.late.items ≡ s.late.items)

-- each is less than those behind it
abbrev pub Rises : List ℕ → Type 0
Rises [] = Unit {0}
Rises (k ∷ ks) = AllByRecursion (λ j. k < j) ks × Rises ks

-- the number that moves
abbrev pub subject : Move → ℕ
subject (ToFirst k) = k
subject (ToLast k) = k

-- moves from one list of numbers to another, as they are found
abbrev pub Finds : Relation → List (List Bool) → List Move → List ℕ → List ℕ → Type 0
Finds order rows [] ks kept = (kept ≡ ks) × (next_move order rows kept ≡ None)
Finds order rows (m ∷ moves) ks kept = (next_move order rows ks ≡ Some m) × Finds order rows moves (without (subject m) ks) kept

-- all are kept still
abbrev pub IsStart : Relation → Pruning → Type 0
IsStart order p = (p.kept ≡ up_from 0 order.count) × (p.first ≡ []) × (p.late.items ≡ [])

-- the moves that are found, one after the other, led here
pub record IsSettled (order : Relation) (rows : List (List Bool)) (p : Pruning) : Type 0 where
  pub moves : List Move
  pub found : Finds order rows moves (up_from 0 order.count) p.kept
  pub first_is : p.first ≡ firsts moves
  pub late_is : p.late.items ≡ lates moves

-- The moves so far lead on, with whatever moves are found from here.
pub record IsOnTheWay (order : Relation) (rows : List (List Bool)) (p : Pruning) (more : Bool) : Type 0 where
  pub below : AllByRecursion (λ j. j < order.count) p.kept
  pub ended : more ≡ false → next_move order rows p.kept ≡ None
  pub done : List Move
  pub leads : (rest : List Move) (left : List ℕ) → Finds order rows rest p.kept left
      → Finds order rows (done ++ rest) (up_from 0 order.count) left
  pub first_is : p.first ≡ firsts done
  pub late_is : p.late.items ≡ lates done
