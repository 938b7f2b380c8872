use Rattle.std.proofs.Common.{◌≡◌, [], take}
use Rattle.order_encode.proofs.table.copy_paths.Given as goal

-- the paths so far are there, in order
abbrev pub invariant-loop-i : goal.invariant-loop-i
invariant-loop-i l = record {
  paths : l.into.paths ≡ take l.i l.table.paths;
  contents : l.into.contents ≡ [];
}
