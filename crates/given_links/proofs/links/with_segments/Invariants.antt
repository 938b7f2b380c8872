use Rattle.std.proofs.Common.{◌≡◌, ◌++◌, drop}
use Rattle.std.specs.List.{AllByRecursion}
use Rattle.fs_semantics.specs.FileTree.{IsSegment}
use Rattle.given_links.proofs.links.with_segments.Given as goal

-- the path so far, with the segments that are left
abbrev pub invariant-loop-segment : goal.invariant-loop-segment
invariant-loop-segment l = (l.whole ++ drop l.segment-index l.segments ≡ l.path ++ l.segments) × AllByRecursion IsSegment (drop l.segment-index l.segments)
