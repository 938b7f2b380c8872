use Rattle.std.proofs.Common.{◌≡◌, ◌++◌}
use Rattle.std.specs.List.{flat_map}
use Rattle.compiled_attributes.specs.Fragments.{piece_text}
use Rattle.compiled_attributes.proofs.content.push_pieces.Given as goal

-- the text so far, with those that are left
abbrev pub invariant-loop-position : goal.invariant-loop-position
invariant-loop-position l = l.into ++ flat_map piece_text l.position-iterator ≡ l.fn.into ++ flat_map piece_text l.fn.pieces.entries
