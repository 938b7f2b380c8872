-- The first extension stands for all allowed orders of a deterministic graph.
use Rattle.std.proofs.Common.{◌≡◌, ℕ, zero, suc, List, [], ◌∷◌, length, slice_index_or, Some, sym, subst}
use Rattle.std.specs.List.{AllByRecursion}
use Rattle.fs_semantics.specs.FileTree.{Tree, IsTree}
use Rattle.fs_semantics.specs.Programs.{Program, Id, run}
use Rattle.fs_semantics.specs.Changes.{IsProper}
use Rattle.fs_semantics.specs.Orders.{IsLinearExtension, outcome}
use Rattle.orders.specs.Relation.{Relation, Comes}
use Rattle.order_encode.specs.Witnesses.{IsFirstExtension}
use Rattle.fs_semantics.proofs.ConstructLaws.{split_then}

-- proper programs leave file trees
abbrev pub LeavesTrees : Type 0
LeavesTrees = (e : Program) (t u : Tree) → IsProper e → IsTree t → run e t ≡ Some u → IsTree u

-- each of a list of proper programs is proper
proper_at : (es : List Program) → AllByRecursion IsProper es → (i : ℕ) → IsProper (slice_index_or es i Id)
proper_at [] all i = tt
proper_at (e ∷ es) all zero = all.0
proper_at (e ∷ es) all (suc i) = proper_at es all.1 i

module _ (leaves : LeavesTrees) (es : List Program) (proper : AllByRecursion IsProper es) where
  -- an order of proper programs leaves file trees
  pub ends_in_tree : (o : List ℕ) (t u : Tree) → IsTree t → outcome es o t ≡ Some u → IsTree u
  ends_in_tree [] t u tree h = let same : t ≡ u = cc in subst IsTree same tree
  ends_in_tree (i ∷ o) t u tree h =
      let two = split_then (run (slice_index_or es i Id) t) (outcome es o) u h in
      ends_in_tree o two.0 u (leaves (slice_index_or es i Id) t two.0 (proper_at es proper i) tree two.1) two.2

-- the first extension is an allowed order
pub allowed : (es : List Program) (order : Relation) (first : List ℕ) → length es ≡ order.count → IsFirstExtension order first → IsLinearExtension (length es) (Comes order) first
allowed es order first long is = subst (λ n. IsLinearExtension n (Comes order) first) (sym long) is.allowed
