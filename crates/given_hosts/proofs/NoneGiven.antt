-- Where no folder is given.
use Rattle.std.proofs.Common.{◌↔◌, ℕ, List, []}
use Rattle.fs_semantics.specs.FileTree.{Tree}
use Rattle.fs_semantics.specs.Programs.{Program}
use Rattle.fs_semantics.specs.Orders.{IsDeterministic, IsIdempotent, Succeeds, IsCounterexample, IsSecondRunCounterexample}
use Rattle.given_hosts.specs.Given.{IsDeterministicFrom, IsIdempotentFrom, SucceedsFrom, IsCounterexampleFrom, IsSecondRunCounterexampleFrom}
use Rattle.given_hosts.proofs.GraphLaws.{none_to_stand}

module _ (es : List Program) (before : ℕ → ℕ → Type 0) where
  -- where no folder is given, all orders end alike from those trees exactly where they do from all
  pub deterministic : IsDeterministicFrom [] es before ↔ IsDeterministic es before
  deterministic = ((λ h t tree. h t (none_to_stand t tree)), (λ h t g. h t g.is_tree))

  -- and no second run changes anything exactly where none does from any tree
  pub idempotent : IsIdempotentFrom [] es before ↔ IsIdempotent es before
  idempotent = ((λ h t tree. h t (none_to_stand t tree)), (λ h t g. h t g.is_tree))

  -- and some run ends in a tree exactly where one does from any tree
  pub succeeds : SucceedsFrom [] es before ↔ Succeeds es before
  succeeds = (
    (λ s. record { tree = s.tree; is_tree = s.is_tree.is_tree; order = s.order; allowed = s.allowed; ends = s.ends }),
    (λ s. record { tree = s.tree; is_tree = none_to_stand s.tree s.is_tree; order = s.order; allowed = s.allowed; ends = s.ends }),
  )

  -- and a counterexample is one
  pub counterexample : (t : Tree) (o p : List ℕ) → IsCounterexampleFrom [] es before t o p ↔ IsCounterexample es before t o p
  counterexample t o p = ((λ c. c.shows), (λ c. record { stand = tt; shows = c }))

  -- and so is one of a second run
  pub second_run : (t : Tree) (o : List ℕ) → IsSecondRunCounterexampleFrom [] es before t o ↔ IsSecondRunCounterexample es before t o
  second_run t o = ((λ c. c.shows), (λ c. record { stand = tt; shows = c }))
