use Rattle.std.proofs.Common.{map, take}
use Rattle.std.specs.List.{AllByRecursion}
use Rattle.fs_lang.specs.Meaning.{program_of}
use Rattle.tried_trees.specs.Ending.{Fails}
use Rattle.tried_trees.proofs.ending.first_end.Given as goal

-- the trees so far were tried
abbrev pub invariant-loop-tree : goal.invariant-loop-tree
invariant-loop-tree l = AllByRecursion (Fails (map program_of l.programs) l.order) (take l.tree-index l.trees)
