use Rattle.std.proofs.Common.{◌≡◌, map, take}
use Rattle.reports.specs.Questions.{quoted_at}
use Rattle.reports.proofs.repairs.quoted_names_in.Given as goal

-- the references so far
abbrev pub invariant-loop-place : goal.invariant-loop-place
invariant-loop-place l = l.names ≡ map (quoted_at l.source l.catalog) (take l.place-index l.plain)
