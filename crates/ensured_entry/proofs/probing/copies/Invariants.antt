use Rattle.std.proofs.Common.{◌≡◌, take}
use Rattle.ensured_entry.proofs.probing.copies.Given as goal

abbrev pub invariant-loop-program : goal.invariant-loop-program
invariant-loop-program l = l.all ≡ take l.program-index l.programs
