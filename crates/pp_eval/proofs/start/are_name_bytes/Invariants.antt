use Rattle.std.proofs.Common.{◌≡◌, drop}
use Rattle.std.specs.List.{list_all}
use Rattle.pp_eval.specs.Scoping.{is_name_byte}
use Rattle.pp_eval.proofs.start.are_name_bytes.Given as goal

abbrev pub invariant-loop-c : goal.invariant-loop-c
invariant-loop-c l = list_all is_name_byte (drop l.c-index l.name) ≡ list_all is_name_byte l.name
