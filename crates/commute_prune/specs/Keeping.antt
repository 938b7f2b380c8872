-- What pruning keeps of programs.
use Rattle.std.specs.Prelude.{ℕ, List, length}
use Rattle.fs_semantics.specs.Programs.{Program}
use Rattle.fs_semantics.specs.Orders.{up_from}
use Rattle.commute_prune.specs.Pruning.{Prunes}
use Rattle.sure_folders.specs.Pruning.{Move}

-- the moves of pruning, from all programs on, lead to just these
abbrev pub Keeps : List Program → (ℕ → ℕ → Type 0) → List ℕ → Type 0
Keeps es before kept = (moves : List Move) × Prunes es before moves (up_from 0 (length es)) kept
