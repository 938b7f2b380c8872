-- The resource at which the run of an order ends in Error.
use Rattle.std.specs.Prelude.{◌≡◌, ◌<◌, ℕ, List, [], ◌∷◌, ◌++◌, length, slice_index_or, Some, None}
use Rattle.fs_semantics.specs.FileTree.{Tree}
use Rattle.fs_semantics.specs.Programs.{Program, Id}
use Rattle.fs_semantics.specs.Orders.{outcome}
use Rattle.failure_semantics.specs.Failures.{Failure, FailsAt}

-- Programs run in this order end in Error at number i: those ahead of it end in a tree, and from that tree its program ends
-- in Error, by this construct.
pub record OrderFailsAt (programs : List Program) (order : List ℕ) (t : Tree) (i : ℕ) (f : Failure) : Type 0 where
  pub front : List ℕ
  pub back : List ℕ
  pub reached : Tree
  pub was : order ≡ front ++ i ∷ back
  pub ends : outcome programs front t ≡ Some reached
  pub fails : FailsAt (slice_index_or programs i Id) reached f

-- a front of the order, whose outcome is Error
pub record IsFailingFront (programs : List Program) (order : List ℕ) (t : Tree) (front : List ℕ) : Type 0 where
  pub more : List ℕ
  pub was : order ≡ front ++ more
  pub fails : outcome programs front t ≡ None

-- number i is the last one of the shortest front of the order whose outcome is Error
pub record EndsShortestFront (programs : List Program) (order : List ℕ) (t : Tree) (i : ℕ) : Type 0 where
  pub ahead : List ℕ
  pub fails : IsFailingFront programs order t (ahead ++ i ∷ [])
  pub shortest : (front : List ℕ) → IsFailingFront programs order t front → length ahead < length front
