use Rattle.std.proofs.Common.{◌-◌, ◌+◌, List, ℕ, length}
use Rattle.pp_declaration_state.specs.Marking.{AreMarked}
use Rattle.pp_declaration_state.proofs.ran.grow.Given as goal

abbrev pub decreases-loop-marks : goal.decreases-loop-marks
decreases-loop-marks l = l.place + 1 - length l.marks.items

abbrev pub invariant-loop-marks : goal.invariant-loop-marks
invariant-loop-marks l = (places : List ℕ) → AreMarked l.fn.marks.items places → AreMarked l.marks.items places
