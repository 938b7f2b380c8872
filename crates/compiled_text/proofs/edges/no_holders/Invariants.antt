use Rattle.std.proofs.Common.{◌≡◌, ℕ, ◌<◌, length, slice_get, Some, None}
use Rattle.compiled_text.proofs.edges.no_holders.Given as goal

-- as many slots as there were turns, in each nothing
abbrev pub invariant-loop-place : goal.invariant-loop-place
invariant-loop-place l = (length l.holders ≡ l._place) × ((place : ℕ) → place < l._place → slice_get l.holders place ≡ Some None)
