use Rattle.std.proofs.Common.{take}
use Rattle.fs_interpreter.specs.Places.{HasPath, Keeps}
use Rattle.fs_replay.proofs.cover.cover_fronts.Given as goal

-- the front up to here is in the table
abbrev pub invariant-loop-k : goal.invariant-loop-k
invariant-loop-k l = record { there : HasPath l.table (take l.k l.p); keeps : Keeps l.fn.table l.table }
