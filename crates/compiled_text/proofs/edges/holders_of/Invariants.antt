use Rattle.std.proofs.Common.{take, drop}
use Rattle.compiled_text.proofs.HolderLaws.{AreNoted}
use Rattle.compiled_text.proofs.edges.holders_of.Given as goal

-- the containers are noted of the edges so far
abbrev pub invariant-loop-e : goal.invariant-loop-e
invariant-loop-e l = AreNoted l.resources l.edges (take l.e-index l.edges) (drop l.e-index l.edges) l.holders
