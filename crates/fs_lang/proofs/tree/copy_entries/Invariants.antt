use Rattle.std.proofs.Common.{◌≡◌, ◌++◌}
use Rattle.fs_lang.proofs.tree.copy_entries.Given as goal

-- the copies, and what is still to be copied
abbrev pub invariant-loop-p : goal.invariant-loop-p
invariant-loop-p l = l.copies.entries ++ l.p-iterator ≡ l.entries.entries
