use Rattle.std.proofs.Common.{◌≡◌, drop}
use Rattle.pp_eval.specs.Scoping.{pairs_in}
use Rattle.pp_data.specs.Lookup.{lookup}
use Rattle.pp_data.proofs.looking.lookup.Given as goal

abbrev pub invariant-loop-level : goal.invariant-loop-level
invariant-loop-level l = lookup (drop l.level-index l.levels) (pairs_in l.facts) l.key ≡ lookup l.levels (pairs_in l.facts) l.key
