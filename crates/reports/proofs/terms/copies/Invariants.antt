use Rattle.std.proofs.Common.{◌≡◌, ◌++◌, drop}
use Rattle.reports.proofs.terms.copies.Given as goal

-- the paths so far, with those that are left
abbrev pub invariant-loop-path : goal.invariant-loop-path
invariant-loop-path l = l.made ++ drop l.path-index l.paths ≡ l.paths
