use Rattle.std.proofs.Common.{◌++◌, take, drop}
use Rattle.commuting_parts.specs.Sweeps.{AreSwept}
use Rattle.commuting_parts.proofs.sweeping.sweeps_are_free.Given as goal

-- where those that follow are free, all are
abbrev pub invariant-loop-i : goal.invariant-loop-i
invariant-loop-i l = AreSwept (((l.s.first.own ++ l.s.behind.own) ++ l.s.first.shared) ++ take l.i l.sweeps) (drop l.i l.sweeps)
    → AreSwept ((l.s.first.own ++ l.s.behind.own) ++ l.s.first.shared) l.sweeps
