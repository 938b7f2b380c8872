-- The graph that is asked about.
use Rattle.std.specs.Prelude.{ℕ, Bool, List, [], ◌∷◌}
use Rattle.fs_semantics.specs.FileTree.{Path}
use Rattle.fs_semantics.specs.Programs.{Program}
use Rattle.given_hosts.specs.Guard.{guarded, guard_before}
use Rattle.orders.specs.Relation.{Relation, comes}

-- the programs themselves; where folders are given, with the guard behind them
abbrev pub asked_programs : List Path → List Program → List Program
asked_programs [] es = es
asked_programs (p ∷ ps) es = guarded (p ∷ ps) es

-- the order between them, in which the guard goes first
abbrev pub asked_order : List Path → Relation → ℕ → ℕ → Bool
asked_order [] order = comes order
asked_order (p ∷ ps) order = guard_before order.count (comes order)
