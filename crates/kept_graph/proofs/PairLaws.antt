-- Paths along pairs lead only from what comes before.
use Rattle.std.proofs.Common.{◌≡◌, ℕ, zero, suc, ◌<◌, Bool, List, [], ◌∷◌, length, get_or, arith}
use Rattle.std.specs.Prelude.{◌↔◌, IsTrue}
use Rattle.std.specs.List.{AllByRecursion}
use Rattle.std.proofs.lemmas.List.Elements.{Contains-get_or}
use Rattle.fs_semantics.proofs.Keys.{same_bool}
use Rattle.orders.specs.Relation.{Relation, comes, Comes, IsStrictOrder}
use Rattle.orders.specs.Paths.{EndsBelow, Path, edge, and_on}
use Rattle.commute_prune.specs.Pairs.{pairs_of}
use Rattle.commute_prune.proofs.PairLaws.{pairs_from, pairs_in}
use Rattle.kept_graph.specs.Pairs.{comes_at}

-- what is true exactly where one node comes before another is what the order tells of them
pub told_by : (order : Relation) (a b : ℕ) (r : Bool) → IsTrue r ↔ Comes order a b → r ≡ comes order a b
told_by order a b r h = same_bool r (comes order a b) h.0 h.1

-- where all nodes of a list are below n, the one at each place is
pub below_at : (n : ℕ) (nodes : List ℕ) (i : ℕ) → AllByRecursion (λ k. k < n) nodes → i < length nodes → get_or nodes i 0 < n
below_at n [] i all h = absurd (omega (arith, h))
below_at n (k ∷ nodes) zero all h = all.0
below_at n (k ∷ nodes) (suc i) all h = below_at n nodes i all.1 (omega (arith, h))

-- the ends of the pairs are below n
pub pairs_bounded : (test : ℕ → ℕ → Bool) (n : ℕ) → EndsBelow n (pairs_of test n n)
pairs_bounded test n k d h = let p = pairs_from test n n _ (Contains-get_or (pairs_of test n n) k d h) in (p.left, p.right)

-- a path of pairs leads only from what comes before
module _ (order : Relation) (nodes : List ℕ) where
  -- a path of pairs leads only from what comes before
  pub pairs_path : IsStrictOrder order → (n i j : ℕ) → Path (pairs_of (comes_at order nodes) n n) i j → Comes order (get_or nodes i 0) (get_or nodes j 0)
  pairs_path strict n i j (edge h) = (pairs_from (comes_at order nodes) n n (i, j) h).passes
  pairs_path strict n i j (and_on h more) = strict.transitive _ _ _ (pairs_from (comes_at order nodes) n n _ h).passes (pairs_path strict n _ j more)

  -- and what comes before leads on by a path of pairs
  pub path_of_pairs : (n i j : ℕ) → i < n → j < n → Comes order (get_or nodes i 0) (get_or nodes j 0) → Path (pairs_of (comes_at order nodes) n n) i j
  path_of_pairs n i j left right h = edge (pairs_in (comes_at order nodes) n n i j left right h)
