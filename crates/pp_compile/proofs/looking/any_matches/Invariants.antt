use Rattle.std.proofs.Common.{◌≡◌, drop}
use Rattle.std.specs.List.{list_any}
use Rattle.catalog_semantics.specs.Collecting.{matches}
use Rattle.pp_compile.proofs.looking.any_matches.Given as goal

abbrev pub invariant-loop-c : goal.invariant-loop-c
invariant-loop-c l = list_any (λ c. matches c l.r) (drop l.c-index l.collectors) ≡ list_any (λ c. matches c l.r) l.collectors
