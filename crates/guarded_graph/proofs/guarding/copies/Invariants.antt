use Rattle.std.proofs.Common.{◌≡◌, take}
use Rattle.guarded_graph.proofs.guarding.copies.Given as goal

-- the copies so far
abbrev pub invariant-loop-program : goal.invariant-loop-program
invariant-loop-program l = l.all ≡ take l.program-index l.programs
