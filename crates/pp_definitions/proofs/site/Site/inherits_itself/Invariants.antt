use Rattle.std.proofs.Common.{◌≡◌, length}
use Rattle.pp_definitions.specs.Places.{goes_on}
use Rattle.pp_definitions.proofs.site.Site.inherits_itself.Given as goal

abbrev pub decreases-loop-left : goal.decreases-loop-left
decreases-loop-left l = l.left

abbrev pub invariant-loop-left : goal.invariant-loop-left
invariant-loop-left l = goes_on l.left l.self.classes l.current ≡ goes_on (length l.self.classes) l.self.classes l.d
