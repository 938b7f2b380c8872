use Rattle.std.proofs.Common.{◌≡◌, map, drop}
use Rattle.fs_semantics.specs.FileTree.{is_among}
use Rattle.given_links.specs.Reading.{read_as}
use Rattle.known_inputs.proofs.edited.is_among_read.Given as goal

-- among those that are left it stands just where it stands among all
abbrev pub invariant-loop-other : goal.invariant-loop-other
invariant-loop-other l = is_among l.path (map (read_as l.links) (drop l.other-index l.paths)) ≡ is_among l.path (map (read_as l.links) l.paths)
