use Rattle.std.proofs.Common.{take}
use Rattle.compiled_relations.specs.Tables.{calls_by, IsTable}
use Rattle.compiled_relations.proofs.index.table_of.Given as goal

-- the table of the resources so far
abbrev pub invariant-loop-place : goal.invariant-loop-place
invariant-loop-place l = IsTable l.table (calls_by l.way) (take l.place l.resources)
