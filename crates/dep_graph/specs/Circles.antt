-- The nodes of a circle, from their numbers.
use Rattle.std.specs.Prelude.{ℕ, ◌/◌, ◌%◌, ◌==◌, nat_lt, if◌then◌else◌, List, [], ◌∷◌, ◌++◌, filter, codes}
use Rattle.std.specs.List.{flat_map}
use Rattle.catalog_semantics.specs.Catalogs.{Catalog}
use Rattle.graph_semantics.specs.Graphs.{Node, Start, End, node_text}

-- the node of a number
abbrev pub node_at : ℕ → Node
node_at n = if n % 2 == 0 then Start (n / 2) else End (n / 2)

-- that node, as it is written in a refusal
abbrev pub number_text : Catalog → ℕ → List ℕ
number_text c n = node_text c (node_at n)

-- the nodes without those that only join the sides of a relation
abbrev pub real_numbers : ℕ → List ℕ → List ℕ
real_numbers bound numbers = filter (λ n. nat_lt n bound) numbers

-- the first of these nodes, as it is written
abbrev pub first_text : Catalog → List ℕ → List ℕ
first_text c [] = []
first_text c (n ∷ numbers) = number_text c n

-- the nodes as they are written, each with an arrow behind it
abbrev pub arrows_text : Catalog → ℕ → List ℕ → List ℕ
arrows_text c bound numbers = flat_map (λ n. number_text c n ++ codes " -> ") (real_numbers bound numbers)

-- the nodes with arrows between them, the first once more at the end
abbrev pub around_text : Catalog → ℕ → List ℕ → List ℕ
around_text c bound numbers = arrows_text c bound numbers ++ first_text c numbers
