use Rattle.std.proofs.Common.{◌≡◌, ◌<◌, ◌≤◌, ◌-◌, length, map, take, Some, None}
use Rattle.fs_semantics.specs.Orders.{outcome}
use Rattle.fs_lang.specs.Meaning.{program_of}
use Rattle.failure_search.proofs.fronts.narrowed.Given as goal

-- the shorter front ends in the tree, the longer one in Error
abbrev pub invariant-halves : goal.invariant-halves
invariant-halves l = record {
  apart : l.low < l.high;
  within : l.high ≤ length l.order;
  ends : outcome (map program_of l.programs) (take l.low l.order) l.tree ≡ Some l.reached;
  fails : outcome (map program_of l.programs) (take l.high l.order) l.tree ≡ None;
}

abbrev pub decreases-halves : goal.decreases-halves
decreases-halves l = l.high - l.low
