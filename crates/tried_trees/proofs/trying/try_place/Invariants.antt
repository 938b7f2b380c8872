use Rattle.std.proofs.Common.{map, take}
use Rattle.std.specs.List.{AllByRecursion}
use Rattle.fs_lang.specs.Meaning.{program_of}
use Rattle.tried_trees.specs.Tried.{IsTried}
use Rattle.tried_trees.proofs.trying.try_place.Given as goal

-- the pairs so far were tried
abbrev pub invariant-loop-pair : goal.invariant-loop-pair
invariant-loop-pair l = AllByRecursion (IsTried l.place (map program_of l.plan.programs.now) l.plan.order.now l.tree) (take l.pair-index l.pairs)
