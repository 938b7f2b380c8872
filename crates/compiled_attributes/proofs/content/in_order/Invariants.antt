use Rattle.std.proofs.Common.{◌≡◌, [], map, drop}
use Rattle.compiled_attributes.specs.Fragments.{with_pieces}
use Rattle.compiled_attributes.proofs.content.in_order.Given as goal

-- the pieces so far, with those of the fragments that are left
abbrev pub invariant-loop-r : goal.invariant-loop-r
invariant-loop-r l = with_pieces l.pieces.entries (map (λ r. r.now) (drop l.r-index l.rs)) ≡ with_pieces [] (map (λ r. r.now) l.rs)
