use Rattle.std.proofs.Common.{◌≡◌, ◌||◌, ℕ, drop}
use Rattle.std.specs.List.{flat_map}
use Rattle.graph_semantics.specs.Relations.{relations_by}
use Rattle.compiled_relations.specs.Links.{has_pair, related_by}
use Rattle.compiled_relations.proofs.related.insert_resource.Given as goal

-- the pairs so far, with those of the attributes that are left
abbrev pub invariant-loop-pair : goal.invariant-loop-pair
invariant-loop-pair l =
    (p : ℕ × ℕ) → (has_pair l.pairs p || has_pair (flat_map (related_by l.catalog) (flat_map (relations_by l.r) (drop l.pair-index l.r.attrs))) p)
    ≡ (has_pair l.fn.pairs p || has_pair (flat_map (related_by l.catalog) (flat_map (relations_by l.r) l.r.attrs)) p)
