use Rattle.std.proofs.Common.{◌≡◌, ◌++◌, take}
use Rattle.equal_graphs.proofs.joining.copy_all.Given as goal

abbrev pub invariant-loop-program : goal.invariant-loop-program
invariant-loop-program l = l.into ≡ l.initial.into ++ take l.program-index l.programs
