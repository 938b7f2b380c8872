use Rattle.std.proofs.Common.{◌≡◌, ◌||◌, ℕ, List}
use Rattle.finite_domain.specs.Matters.{has_segment}
use Rattle.path_domain.specs.Segments.{texts_in}
use Rattle.path_domain.proofs.segments.segments_of.Given as goal

-- the segments so far and those of the paths to come
abbrev pub invariant-loop-p : goal.invariant-loop-p
invariant-loop-p l = (c : List ℕ) → (has_segment c l.p-iterator || texts_in l.set c) ≡ has_segment c l.paths.keys
