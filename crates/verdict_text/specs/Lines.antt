-- Lines on file trees, orders and outcomes.
use Rattle.std.specs.Prelude.{ℕ, List, [], ◌++◌, map, slice_index_or, Some, None, codes}
use Rattle.fs_semantics.specs.FileTree.{Tree}
use Rattle.fs_semantics.specs.Programs.{Outcome}
use Rattle.tree_text.specs.TreeText.{tree_text}
use Rattle.order_text.specs.OrderText.{order_text}

-- a file tree
abbrev pub tree_line : Tree → List ℕ
tree_line t = codes "tree " ++ (tree_text t ++ codes "\n")

-- an outcome: a tree, or Error
abbrev pub outcome_text : Outcome → List ℕ
outcome_text None = codes "error"
outcome_text (Some t) = tree_text t

-- the line of an outcome
abbrev pub outcome_line : Outcome → List ℕ
outcome_line o = codes "outcome " ++ (outcome_text o ++ codes "\n")

-- the name of the resource at a position
abbrev pub name_at : List (List ℕ) → ℕ → List ℕ
name_at names i = slice_index_or names i []

-- an order of resources, which have these names
abbrev pub order_line : List (List ℕ) → List ℕ → List ℕ
order_line names order = codes "order " ++ (order_text (map (name_at names) order) ++ codes "\n")
