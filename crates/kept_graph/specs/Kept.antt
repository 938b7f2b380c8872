-- The graph of what pruning keeps, and orders of all programs that its orders make.
use Rattle.std.specs.Prelude.{◌≡◌, ◌↔◌, ℕ, ◌<◌, List, ◌++◌, map, length, slice_index_or}
use Rattle.fs_semantics.specs.Programs.{Program}
use Rattle.fs_semantics.specs.Orders.{Told}
use Rattle.fs_lang.specs.Meaning.{program_of}
use Rattle.orders.specs.Relation.{Relation, comes, Comes}
use Rattle.commute_prune.specs.declared.settling.Pruned.{Pruned}
use Rattle.commute_prune.specs.Pruning.{AreSome}
use Rattle.sure_folders.specs.Pruning.{chosen, between}
use Rattle.commute_prune.specs.Pruned.{IsPruned}
use Rattle.kept_graph.specs.declared.kept.Kept.{Kept}

-- What pruning keeps, in the order of the programs' numbers, and what comes before what among it.
pub record IsKept (es : List Program) (order : Relation) (k : Kept) : Type 0 where
  pub pruned : IsPruned es (Told (comes order)) k.pruned
  pub some : AreSome (length es) k.pruned.kept
  pub programs : map program_of k.programs ≡ chosen es k.pruned.kept
  pub count : k.order.count ≡ length k.pruned.kept
  pub before : (a b : ℕ) → a < length k.pruned.kept → b < length k.pruned.kept → Comes k.order a b ↔ between (Comes order) k.pruned.kept a b

-- what goes first, the kept ones in this order, and what goes last
abbrev pub completion : Pruned → List ℕ → List ℕ
completion p order = p.first ++ (map (λ i. slice_index_or p.kept i 0) order ++ p.last)
