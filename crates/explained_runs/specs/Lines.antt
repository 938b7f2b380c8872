-- Lines on runs that part.
use Rattle.std.specs.Prelude.{ℕ, List, ◌++◌, codes}
use Rattle.fs_semantics.specs.FileTree.{Tree}
use Rattle.tree_text.specs.TreeText.{tree_text}
use Rattle.verdict_text.specs.Lines.{tree_line}

-- the two neighbours of which each comes first in one of two orders
abbrev pub exchange_line : List ℕ → List ℕ → List ℕ
exchange_line a b = codes "exchanged " ++ (a ++ (codes " and " ++ (b ++ codes "\n")))

-- how the run ends in which this neighbour comes first
abbrev pub first_line : List ℕ → List ℕ → List ℕ
first_line name how = name ++ (codes " first: " ++ (how ++ codes "\n"))

-- how the second run ends
abbrev pub second_line : List ℕ → List ℕ
second_line how = codes "second run: " ++ (how ++ codes "\n")

-- how the run from this tree ends
abbrev pub from_line : Tree → List ℕ → List ℕ
from_line t how = codes "from " ++ (tree_text t ++ (codes ": " ++ (how ++ codes "\n")))

-- Two runs from a tree that end apart: the neighbours that are exchanged, the tree, how each run ends, and where the
-- outcomes differ.
abbrev pub apart_lines : List ℕ → List ℕ → Tree → List ℕ → List ℕ → List ℕ → List ℕ
apart_lines a b t how other list = exchange_line a b ++ (tree_line t ++ (first_line a how ++ (first_line b other ++ list)))

-- A second run that changes what the first left: the tree from which the first began, how the second ends, and what it
-- changed.
abbrev pub again_lines : Tree → List ℕ → List ℕ → List ℕ
again_lines t how list = tree_line t ++ (second_line how ++ list)
