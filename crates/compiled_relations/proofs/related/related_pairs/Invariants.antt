use Rattle.std.proofs.Common.{◌≡◌, ◌||◌, ℕ, drop}
use Rattle.std.specs.List.{flat_map}
use Rattle.graph_semantics.specs.Relations.{relations_of}
use Rattle.compiled_relations.specs.Links.{has_pair, related_by, related_pairs}
use Rattle.compiled_relations.proofs.related.related_pairs.Given as goal

-- the pairs so far, with those of the resources that are left
abbrev pub invariant-loop-place : goal.invariant-loop-place
invariant-loop-place l = (p : ℕ × ℕ) → (has_pair l.pairs p || has_pair (flat_map (related_by l.catalog) (flat_map relations_of (drop l.place l.catalog.resources))) p) ≡ has_pair (related_pairs l.catalog) p
