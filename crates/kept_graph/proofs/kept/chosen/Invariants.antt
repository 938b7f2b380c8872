use Rattle.std.proofs.Common.{◌≡◌, map, take}
use Rattle.fs_lang.specs.Meaning.{program_of}
use Rattle.sure_folders.specs.Pruning.{chosen}
use Rattle.kept_graph.proofs.kept.chosen.Given as goal

-- the copies so far
abbrev pub invariant-loop-k : goal.invariant-loop-k
invariant-loop-k l = map program_of l.copies ≡ chosen (map program_of l.programs) (take l.k-index l.kept)
