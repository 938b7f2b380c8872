use Rattle.std.proofs.Common.{◌<◌, map, length, take, drop}
use Rattle.std.specs.List.{AllByRecursion}
use Rattle.fs_lang.specs.Meaning.{program_of}
use Rattle.settled_groups.specs.Groups.{GroupSettles}
use Rattle.second_runs.proofs.groups.each_settles.Given as goal

abbrev pub invariant-loop-group : goal.invariant-loop-group
invariant-loop-group l = record {
  -- those that are left are of programs
  below : AllByRecursion (AllByRecursion (λ k. k < length l.programs)) (drop l.group-index l.groups);
  -- those so far settle
  settle : AllByRecursion (GroupSettles (map program_of l.programs)) (take l.group-index l.groups);
}
