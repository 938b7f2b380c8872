use Rattle.std.proofs.Common.{◌≡◌, [], ◌++◌, drop}
use Rattle.compiled_text.specs.Compiled.{ids_of}
use Rattle.compiled_text.specs.Reading.{are_new}
use Rattle.compiled_text.proofs.resources.refs_of.Given as goal

-- the references so far, with those that are left
abbrev pub invariant-loop-r : goal.invariant-loop-r
invariant-loop-r l =
    (are_new l.refs (ids_of (drop l.r-index l.resources)) ≡ are_new [] (ids_of l.resources))
    × (l.refs ++ ids_of (drop l.r-index l.resources) ≡ ids_of l.resources)
