use Rattle.std.proofs.Common.{◌≡◌, map, drop}
use Rattle.fs_semantics.specs.FileTree.{is_among}
use Rattle.given_links.specs.Reading.{read_as}
use Rattle.known_inputs.specs.Inputs.{edits_from}
use Rattle.known_inputs.proofs.edited.is_edited.Given as goal

-- those that are left, of which the first stands at the place, edit it just where all do
abbrev pub invariant-loop-r : goal.invariant-loop-r
invariant-loop-r l =
    (l.place ≡ l.r-index)
    × (is_among l.path (map (read_as l.links) (edits_from l.premises.resources.now l.premises.assumptions.now l.place (drop l.r-index l.premises.resources.now)))
    ≡ is_among l.path (map (read_as l.links) (edits_from l.premises.resources.now l.premises.assumptions.now 0 l.premises.resources.now)))
