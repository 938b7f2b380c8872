use Rattle.std.proofs.Common.{◌≡◌, ◌||◌}
use Rattle.fs_semantics.specs.FileTree.{Path, is_among}
use Rattle.effect_sets.specs.Members.{members}
use Rattle.commuting_parts.proofs.apart.add_all.Given as goal

-- the paths so far, and the others
abbrev pub invariant-loop-p : goal.invariant-loop-p
invariant-loop-p l = (q : Path) → (is_among q l.p-iterator || members l.into q) ≡ (members l.paths q || members l.initial.into q)
