use Rattle.std.proofs.Common.{◌≡◌, ◌||◌, ℕ, drop}
use Rattle.compiled_relations.specs.Links.{has_pair, each_with}
use Rattle.compiled_relations.proofs.pairs.PlacePairs.insert_each.Given as goal

-- the pairs so far, with those that are left
abbrev pub invariant-loop-second : goal.invariant-loop-second
invariant-loop-second l =
    (p : ℕ × ℕ) → (has_pair l.self p || has_pair (each_with l.firsts (drop l.second-index l.seconds)) p) ≡ (has_pair l.fn.self p || has_pair (each_with l.firsts l.seconds) p)
