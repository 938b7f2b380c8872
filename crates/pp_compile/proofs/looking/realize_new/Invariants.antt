use Rattle.std.proofs.Common.{◌≡◌}
use Rattle.pp_compile.specs.Rounds.{realized_below}
use Rattle.pp_compile.proofs.looking.realize_new.Given as goal

abbrev pub invariant-loop-i : goal.invariant-loop-i
invariant-loop-i l = l.state ≡ realized_below l.i l.initial.state
