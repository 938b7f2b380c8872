use Rattle.std.proofs.Common.{◌≡◌, ◌||◌, ℕ, drop}
use Rattle.compiled_relations.specs.Links.{has_pair, before_one}
use Rattle.compiled_relations.proofs.pairs.PlacePairs.insert_before.Given as goal

-- the pairs so far, with those that are left
abbrev pub invariant-loop-first : goal.invariant-loop-first
invariant-loop-first l =
    (p : ℕ × ℕ) → (has_pair l.self p || has_pair (before_one (drop l.first-index l.firsts) l.second) p) ≡ (has_pair l.fn.self p || has_pair (before_one l.firsts l.second) p)
