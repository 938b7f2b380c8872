-- An arrow that is missing, as two runs show.
use Rattle.std.specs.Prelude.{◌≢◌, ◌==◌, ℕ, List, [], ◌∷◌, length, Option, Some, None, IsSome, if◌then◌else◌}
use Rattle.fs_semantics.specs.FileTree.{Tree, IsTree}
use Rattle.fs_semantics.specs.Programs.{Program}
use Rattle.fs_semantics.specs.Orders.{Told, IsLinearExtension, IsDeterministic, outcome}
use Rattle.orders.specs.Relation.{Relation, comes, Comes}
use Rattle.determinism.specs.First.{IsSpent}
use Rattle.repair.specs.Arrows.{IsBetweenFree, Follows}
use Rattle.repair.specs.declared.missing.Look.{Look}
use Rattle.repair.specs.declared.missing.Look.TheVariants as look

-- The arrow is missing: from some tree an allowed run that follows it ends in a tree, and another allowed run doesn't end in the
-- same one.
pub record IsMissing (es : List Program) (order : Relation) (arrow : ℕ × ℕ) : Type 0 where
  pub between : IsBetweenFree order arrow
  pub tree : Tree
  pub is_tree : IsTree tree
  pub run : List ℕ
  pub run_allowed : IsLinearExtension (length es) (Comes order) run
  pub follows : Follows run arrow
  pub ends : IsSome (outcome es run tree)
  pub other : List ℕ
  pub other_allowed : IsLinearExtension (length es) (Comes order) other
  pub differ : outcome es run tree ≢ outcome es other tree

-- What a look at a graph tells.
abbrev pub IsLook : List Program → Relation → ℕ → Look → Type 0
IsLook es order budget look.Sure = IsDeterministic es (Told (comes order))
IsLook es order budget (look.Missing arrow) = IsMissing es order arrow
IsLook es order budget (look.Spent cnf log) = IsSpent es (Told (comes order)) budget cnf log.steps

-- where two lists first differ: what the one has there, and what the other
abbrev pub first_apart : List ℕ → List ℕ → Option (ℕ × ℕ)
first_apart [] q = None
first_apart (x ∷ p) [] = None
first_apart (x ∷ p) (y ∷ q) = if x == y then first_apart p q else Some (x, y)
