use Rattle.std.proofs.Common.{map, take}
use Rattle.std.specs.List.{AllByRecursion}
use Rattle.fs_lang.specs.Meaning.{program_of}
use Rattle.determinism.specs.Settled.{PairCommutes}
use Rattle.determinism.proofs.settling.look_at_all.Given as goal

-- those of the pairs so far commute
abbrev pub invariant-loop-pair : goal.invariant-loop-pair
invariant-loop-pair l = AllByRecursion (PairCommutes (map program_of l.plan.programs.now)) (take l.pair-index l.pairs)
