use Rattle.std.proofs.Common.{◌≡◌, drop}
use Rattle.std.specs.List.{list_all}
use Rattle.pp_eval.specs.Scoping.{pairs_in}
use Rattle.pp_data.specs.Lookup.{is_met, applies}
use Rattle.pp_data.proofs.looking.applies.Given as goal

abbrev pub invariant-loop-wanted : goal.invariant-loop-wanted
invariant-loop-wanted l = list_all (is_met (pairs_in l.facts)) (drop l.wanted-index l.wanted-items) ≡ applies (pairs_in l.facts) l.level
