use Rattle.std.proofs.Common.{◌≡◌, drop}
use Rattle.assumed_text.specs.Reading.{with_new}
use Rattle.assumed_text.proofs.behavior.add_new.Given as goal

-- with those that are left it is what it is with all
abbrev pub invariant-loop-path : goal.invariant-loop-path
invariant-loop-path l = with_new l.seen (drop l.path-index l.paths) ≡ with_new l.initial.seen l.paths
