use Rattle.std.specs.FinMap as map
use Rattle.fs_lang.specs.Trees.{entries_of}
use Rattle.fs_interpreter.specs.Places.{Listed, Keeps}
use Rattle.fs_replay.proofs.StandLaws.{HasEntries}
use Rattle.fs_replay.proofs.cover.table_of.Given as goal

-- a table that keeps this one and has the entries that are left has all
abbrev pub invariant-loop-p : goal.invariant-loop-p
invariant-loop-p l = (t : Listed) → Keeps l.table t → HasEntries t (entries_of l.p-iterator) → HasEntries t (map.entries l.tree)
