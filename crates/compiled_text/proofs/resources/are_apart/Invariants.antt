use Rattle.std.proofs.Common.{◌≡◌, [], drop, map}
use Rattle.compiled_text.specs.Compiled.{counts_as}
use Rattle.compiled_text.specs.Reading.{are_new}
use Rattle.compiled_text.proofs.resources.are_apart.Given as goal

-- those that are left are new after those so far just where all are
abbrev pub invariant-loop-r : goal.invariant-loop-r
invariant-loop-r l = are_new l.refs (map counts_as (drop l.r-index l.resources)) ≡ are_new [] (map counts_as l.resources)
