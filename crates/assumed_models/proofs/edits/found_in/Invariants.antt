use Rattle.std.proofs.Common.{◌≡◌, [], drop}
use Rattle.std.specs.List.{AllByRecursion}
use Rattle.assumed_models.specs.Edits.{with_all_noted}
use Rattle.assumed_models.proofs.EditLaws.{IsProper}
use Rattle.assumed_models.proofs.edits.found_in.Given as goal

-- with those that are left it is what it is with all; and where the paths that are left are proper, all are
abbrev pub invariant-loop-edit : goal.invariant-loop-edit
invariant-loop-edit l =
    (with_all_noted l.place (drop l.edit-index l.edits) l.found ≡ with_all_noted 0 l.edits [])
    × (l.place ≡ l.edit-index)
    × (AllByRecursion IsProper (drop l.edit-index l.edits) → AllByRecursion IsProper l.edits)
