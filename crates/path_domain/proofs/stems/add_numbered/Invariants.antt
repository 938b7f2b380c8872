use Rattle.std.proofs.Common.{◌≡◌, ◌++◌}
use Rattle.path_domain.proofs.StemLaws.{numbers_to}
use Rattle.path_domain.proofs.stems.add_numbered.Given as goal

-- the contents with so many numbered texts
abbrev pub invariant-loop-i : goal.invariant-loop-i
invariant-loop-i l = record {
  paths : l.table.paths ≡ l.fn.table.paths;
  contents : l.table.contents ≡ l.fn.table.contents ++ numbers_to l.start l.i;
}
