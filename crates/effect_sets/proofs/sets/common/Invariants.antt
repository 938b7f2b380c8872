use Rattle.std.proofs.Common.{◌≡◌, ◌&&◌, ◌||◌}
use Rattle.fs_semantics.specs.FileTree.{Path, is_among}
use Rattle.effect_sets.specs.Members.{members, common}
use Rattle.effect_sets.proofs.sets.common.Given as goal

-- what was found so far, and what is found among the others
abbrev pub invariant-loop-p : goal.invariant-loop-p
invariant-loop-p l = (q : Path) → ((is_among q l.p-iterator && members l.b q) || members l.shared q) ≡ common (members l.a) (members l.b) q
