use Rattle.std.proofs.Common.{◌≡◌}
use Rattle.std.specs.Prelude.{◌↔◌}
use Rattle.std.specs.FinMap as map
use Rattle.fs_lang.specs.Trees.{entries_of}
use Rattle.fs_replay.proofs.comparing.same_tree.Given as goal

-- the trees are one where the entries that are left are the same
abbrev pub invariant-loop-p : goal.invariant-loop-p
invariant-loop-p l = (entries_of l.p-iterator ≡ entries_of l.rest) ↔ (map.entries l.a ≡ map.entries l.b)
