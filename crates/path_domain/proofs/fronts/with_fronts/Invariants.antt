use Rattle.std.proofs.Common.{◌≡◌, ◌||◌}
use Rattle.fs_semantics.specs.FileTree.{Path, is_among}
use Rattle.finite_domain.specs.Matters.{all_fronts}
use Rattle.path_domain.specs.Gathered.{members}
use Rattle.path_domain.proofs.fronts.with_fronts.Given as goal

-- the fronts so far and those of the paths to come
abbrev pub invariant-loop-p : goal.invariant-loop-p
invariant-loop-p l = (q : Path) → (is_among q (all_fronts l.p-iterator) || members l.set q) ≡ is_among q (all_fronts l.paths.keys)
