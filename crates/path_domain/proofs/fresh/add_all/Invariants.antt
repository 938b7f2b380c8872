use Rattle.std.proofs.Common.{◌≡◌, ◌||◌}
use Rattle.fs_semantics.specs.FileTree.{Path, is_among}
use Rattle.path_domain.specs.Gathered.{members}
use Rattle.path_domain.proofs.fresh.add_all.Given as goal

-- the paths so far and those to come
abbrev pub invariant-loop-p : goal.invariant-loop-p
invariant-loop-p l = (q : Path) → (is_among q l.p-iterator || members l.into q) ≡ (members l.paths q || members l.fn.into q)
