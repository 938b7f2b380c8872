-- The first question about programs: are there two allowed orders with different outcomes?
use Rattle.std.specs.Prelude.{◌↔◌, ℕ, List}
use Rattle.fs_semantics.specs.Programs.{Program}
use Rattle.fs_semantics.specs.Orders.{IsDeterministic}
use Rattle.finite_domain.specs.Layouts.{IsLayout}
use Rattle.path_domain.specs.declared.listed.Domain.{Domain}
use Rattle.path_domain.specs.Laid.{layout_of}
use Rattle.sure_folders.specs.Pruning.{chosen, between}
use Rattle.cnf.specs.Formulas.{Formula, IsSatisfiable}
use Rattle.order_encode.specs.Witnesses.{HaveDifferentOutcomes}

-- The formula states the question: it can be true exactly where two allowed orders have different outcomes from some tree over
-- the domain of the programs.
abbrev pub States : List Program → (ℕ → ℕ → Type 0) → Formula → Type 0
States es before f = (d : Domain) → IsLayout es (layout_of d) → IsSatisfiable f ↔ HaveDifferentOutcomes es before d

-- the kept programs are deterministic, by the order between them
abbrev pub IsKeptDeterministic : List Program → (ℕ → ℕ → Type 0) → List ℕ → Type 0
IsKeptDeterministic es before kept = IsDeterministic (chosen es kept) (between before kept)

-- the formula states the question of the kept graph
abbrev pub StatesKept : List Program → (ℕ → ℕ → Type 0) → List ℕ → Formula → Type 0
StatesKept es before kept f = States (chosen es kept) (between before kept) f
