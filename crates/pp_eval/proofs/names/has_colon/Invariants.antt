use Rattle.std.proofs.Common.{◌≡◌, drop}
use Rattle.std.specs.List.{list_any}
use Rattle.pp_eval.specs.Names.{is_colon}
use Rattle.pp_eval.proofs.names.has_colon.Given as goal

abbrev pub invariant-loop-c : goal.invariant-loop-c
invariant-loop-c l = list_any is_colon (drop l.c-index l.name) ≡ list_any is_colon l.name
