use Rattle.std.proofs.Common.{◌≡◌, ◌++◌, drop, map}
use Rattle.fs_lang.specs.Meaning.{program_of}
use Rattle.assumed_models.specs.Edits.{edits_beside, marks_in, edits_at}
use Rattle.assumed_models.specs.LostEdits.{drops}
use Rattle.assumed_models.proofs.edits.drops_at.Given as goal

-- the steps so far, with those of the places that are left
abbrev pub invariant-loop-i : goal.invariant-loop-i
invariant-loop-i l =
    map program_of l.steps ++ drops (marks_in (edits_beside l.place (edits_at l.edits (drop l.i-index l.places))))
    ≡ drops (marks_in (edits_beside l.place (edits_at l.edits l.places)))
