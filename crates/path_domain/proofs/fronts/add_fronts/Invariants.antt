use Rattle.std.proofs.Common.{◌≡◌, ◌||◌, take}
use Rattle.fs_semantics.specs.FileTree.{Path, is_among}
use Rattle.finite_domain.specs.Matters.{fronts}
use Rattle.path_domain.specs.Gathered.{members}
use Rattle.path_domain.proofs.fronts.add_fronts.Given as goal

-- the fronts up to here
abbrev pub invariant-loop-k : goal.invariant-loop-k
invariant-loop-k l = (q : Path) → members l.set q ≡ (is_among q (fronts (take l.k l.p)) || members l.fn.set q)
