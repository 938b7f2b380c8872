-- What a visit of a watcher does.
use Rattle.std.specs.Prelude.{◌≡◌, ℕ, true, false, List, [], ◌∷◌, ◌++◌, Option, Some, None}
use Rattle.unit_propagation.specs.Literals.{opposite, has}
use Rattle.unit_propagation.specs.Trails.{Way}
use Rattle.unit_propagation.specs.declared.watches.Watcher.{Watcher}
use Rattle.unit_propagation.specs.declared.propagate.Visited.{Visited}
use Rattle.unit_propagation.specs.declared.propagate.Visited.TheVariants as visited
use Rattle.unit_propagation.specs.Watching.{with_literal, Scanning, IsReady, IsStopped}

-- the literal is false, or it is set, given by a clause
abbrev pub Forces : Way → Way → ℕ → ℕ → Visited → Type 0
Forces t s literal n visited.Gone = ⊥
Forces t s literal n (visited.Kept b) = (b ≡ literal) × (has t.literals (opposite literal) ≡ false)
    × (s ≡ with_literal t literal n)
Forces t s literal n visited.False = (has t.literals (opposite literal) ≡ true) × (s ≡ t)

-- the scan goes on behind the watcher
abbrev pub IsAfter : List (List ℕ) → Way → List (List Watcher) → List Watcher → List Watcher → ℕ → Watcher → Visited → Type 0
IsAfter f t w front rest literal v visited.Gone = Scanning f t w front rest literal None
IsAfter f t w front rest literal v (visited.Kept b) =
    Scanning f t w (front ++ (record { clause = v.clause; blocker = b }) ∷ []) rest literal None
IsAfter f t w front rest literal v visited.False = Scanning f t w (front ++ v ∷ []) rest literal (Some v.clause)

-- nothing is left to scan: there was no conflict, or this clause is one
abbrev pub Ends : List (List ℕ) → Way → List (List Watcher) → Option ℕ → Type 0
Ends f t w None = IsReady f t w
Ends f t w (Some n) = IsStopped f t w n
