use Rattle.std.proofs.Common.{◌≡◌, length}
use Rattle.std.specs.List.{AllByRecursion}
use Rattle.fs_semantics.specs.FileTree.{IsSegment}
use Rattle.given_links.specs.Reading.{behind}
use Rattle.given_links.proofs.links.behind.Given as goal

abbrev pub invariant-loop-s : goal.invariant-loop-s
invariant-loop-s l = (behind l.left l.rest ≡ behind l.front l.path) × AllByRecursion IsSegment l.rest

abbrev pub decreases-loop-s : goal.decreases-loop-s
decreases-loop-s l = length l.left
