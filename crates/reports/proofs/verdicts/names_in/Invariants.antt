use Rattle.std.proofs.Common.{◌≡◌, map, take}
use Rattle.graph_semantics.specs.Graphs.{reference_at}
use Rattle.reports.proofs.verdicts.names_in.Given as goal

-- the references so far
abbrev pub invariant-loop-place : goal.invariant-loop-place
invariant-loop-place l = l.names ≡ map (reference_at l.catalog) (take l.place-index l.plain)
