use Rattle.std.proofs.Common.{◌≡◌, take}
use Rattle.order_encode.proofs.table.copy_contents.Given as goal

-- the contents so far are there, in order
abbrev pub invariant-loop-n : goal.invariant-loop-n
invariant-loop-n l = record {
  paths : l.into.paths ≡ l.fn.into.paths;
  contents : l.into.contents ≡ take l.n l.table.contents;
}
