use Rattle.std.proofs.Common.{◌≡◌, ◌++◌, map, take}
use Rattle.fs_lang.specs.Meaning.{program_of}
use Rattle.sure_folders.specs.Pruning.{chosen}
use Rattle.given_verdict.proofs.behind.push_programs.Given as goal

-- those so far, behind what was there
abbrev pub invariant-loop-k : goal.invariant-loop-k
invariant-loop-k l = map program_of l.steps ≡ map program_of l.initial.steps ++ chosen (map program_of l.programs) (take l.k-index l.order)
