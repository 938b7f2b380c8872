use Rattle.std.proofs.Common.{◌≡◌, if◌then◌else◌, Some, None, length}
use Rattle.pp_value.specs.declared.value.Ref.{Ref}
use Rattle.compiled_relations.specs.Finding.{or_else, is_one}
use Rattle.compiled_relations.specs.Tables.{place_among}
use Rattle.compiled_relations.proofs.table.Table.note_all.Given as goal

-- the places so far, with those of the references that are left
abbrev pub invariant-loop-r : goal.invariant-loop-r
invariant-loop-r l =
    (q : Ref) → or_else (place_among q l.self) (if is_one q l.left.items then Some l.place else None) ≡ or_else (place_among q l.fn.self) (if is_one q l.fn.refs then Some l.place else None)

abbrev pub decreases-loop-r : goal.decreases-loop-r
decreases-loop-r l = length l.left.items
