-- Edges between nodes, paths of edges, and cycles.
use Rattle.std.specs.Prelude.{◌≡◌, ℕ, ◌<◌, ◌≤◌, List, [], ◌∷◌}
use Rattle.std.specs.List.{All, AllByRecursion, Contains}
use Rattle.fs_semantics.specs.Orders.{times}

-- one of these edges leads from a to b
abbrev pub HasEdge : List (ℕ × ℕ) → ℕ → ℕ → Type 0
HasEdge edges a b = Contains edges (a, b)

-- both ends of each edge are among the n nodes 0, 1, ..
abbrev pub EndsBelow : ℕ → List (ℕ × ℕ) → Type 0
EndsBelow n edges = All (λ e. (e.0 < n) × (e.1 < n)) edges

-- a path of at least one edge leads from a to b
pub data Path (edges : List (ℕ × ℕ)) : ℕ → ℕ → Type 0 where
  edge : {a b : ℕ} → HasEdge edges a b → Path edges a b
  and_on : {a b c : ℕ} → HasEdge edges a b → Path edges b c → Path edges a c

-- edges lead from a to the first of these nodes, from each to the next, and from the last to b
abbrev pub Trail : List (ℕ × ℕ) → ℕ → List ℕ → ℕ → Type 0
Trail edges a [] b = HasEdge edges a b
Trail edges a (c ∷ nodes) b = HasEdge edges a c × Trail edges c nodes b

-- the nodes of a cycle, each once and in the direction of the edges, the least first
pub record IsCycle (edges : List (ℕ × ℕ)) (nodes : List ℕ) : Type 0 where
  pub first : ℕ
  pub others : List ℕ
  pub whole : nodes ≡ first ∷ others
  pub closed : Trail edges first others first
  pub least : AllByRecursion (λ k. first ≤ k) others
  pub once : (k : ℕ) → times k nodes ≤ 1
