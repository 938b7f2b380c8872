use Rattle.std.proofs.Common.{◌≡◌, ◌||◌}
use Rattle.fs_semantics.specs.FileTree.{Path}
use Rattle.effect_sets.specs.Members.{members, is_parent_of}
use Rattle.effect_sets.proofs.sets.add_parents.Given as goal

-- the parents so far, and those of the others
abbrev pub invariant-loop-p : goal.invariant-loop-p
invariant-loop-p l = (q : Path) → (is_parent_of q l.p-iterator || members l.into q) ≡ (is_parent_of q l.set.keys || members l.initial.into q)
