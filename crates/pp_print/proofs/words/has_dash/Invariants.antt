use Rattle.std.proofs.Common.{◌≡◌, drop}
use Rattle.pp_print.specs.Words.{has_dash}
use Rattle.pp_print.proofs.words.has_dash.Given as goal

-- No byte that was passed is a dash.
abbrev pub invariant-loop-b : goal.invariant-loop-b
invariant-loop-b l = has_dash (drop l.b-index l.name) ≡ has_dash l.name
